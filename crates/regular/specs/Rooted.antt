-- The expression of a table with its root.
use Rattle.std.specs.Prelude.{ℕ, vec_items}
use Rattle.regular.specs.Regex.{Regex}
use Rattle.regular.specs.Trees.{tree}
use Rattle.regular.specs.declared.table.Rooted.{Rooted}

-- the expression of the root
abbrev pub rooted_tree : Rooted → Regex ℕ
rooted_tree r = tree (vec_items r.table.nodes) r.root
