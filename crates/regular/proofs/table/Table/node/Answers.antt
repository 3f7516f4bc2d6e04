use Rattle.std.proofs.Common.{length, sym, refl}
use Rattle.std.proofs.lemmas.List.{get_or_read_under}
use Rattle.regular.specs.declared.node.Node.TheVariants.{Leaf}
use Rattle.regular.proofs.Nodes.{tree_at}
use Rattle.regular.proofs.table.Table.node.Goals as goal

pub returns-clause-stands : goal.returns-clause-stands
returns-clause-stands c = tree_at c.args.self.now.nodes.items c.args.self.now.falls c.args.n c.requires _ (sym (get_or_read_under c.args.self.now.nodes.items c.args.n (length c.args.self.now.nodes.items) c.index.result.now (Leaf 0) c.index.ensures c.requires refl))
