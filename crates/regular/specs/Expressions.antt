-- What an expression stands for, and the lists that it wants.
use Rattle.std.specs.Prelude.{ℕ, Bool, List, length, vec_items}
use Rattle.event.specs.declared.order.Order.{Order}
use Rattle.regular.specs.Regex.{Regex}
use Rattle.regular.specs.Rooted.{rooted_tree}
use Rattle.regular.specs.Accepts.{accepts}
use Rattle.regular.specs.Automata.{fits, after, sticks}
use Rattle.regular.specs.Labels.{suits}
use Rattle.regular.specs.Machine.{Reads}
use Rattle.regular.specs.declared.label.Label.{Label}
use Rattle.regular.specs.declared.expression.Expression.{Expression}
use Rattle.regular.specs.declared.reading.Reading.{Reading}

-- the tree of an expression, over the numbers of its leaves
abbrev pub tree_of : {K : Type 0} → Expression K → Regex ℕ
tree_of x = rooted_tree x.rooted

-- what stands at its leaves
abbrev pub labels_of : {K : Type 0} → Expression K → List (Label K)
labels_of x = vec_items x.labels

-- whether an event meets the leaf with a number
abbrev pub meets : {K : Type 0} → (K → K → Order) → Expression K → ℕ → K → Bool
meets order x = fits (suits order) (labels_of x)

-- the list is in the language
abbrev pub expression_wants : {K : Type 0} → (K → K → Order) → Expression K → List K → Bool
expression_wants order x list = accepts (meets order x) (tree_of x) list

-- nothing may come behind the list
abbrev pub expression_barren : {K : Type 0} → (K → K → Order) → Expression K → List K → Bool
expression_barren order x list = sticks (meets order x) (tree_of x) list

-- what was read is a list, by the automaton with a place for each label
abbrev pub HasRead : {K : Type 0} → (K → K → Order) → Expression K → List K → Reading → Type 0
HasRead order x list r =
    Reads (meets order x) (tree_of x) (length (labels_of x)) (after (meets order x) (tree_of x) (length (labels_of x)) list) r
