use Rattle.std.proofs.Common.{sym, ap, ◌∙◌}
use Rattle.search.specs.Walks.{at, lexicon_of}
use Rattle.search.proofs.Walking.{fruitless}
use Rattle.search.proofs.walk.Walk.is_closed.Goals as goal

pub returns-else-depth-self-clause-hopeless : goal.returns-else-depth-self-clause-hopeless
returns-else-depth-self-clause-hopeless g c t q b pattern w =
    let walk = c.args.self.now in
    let filter = c.args.filter.now in
    let barren = g.F.Filter.barren filter in
    fruitless (lexicon_of walk) (g.F.Filter.wants filter) barren (g.F.Filter.fruitless filter) (at walk) q (ap barren (sym c.list.ensures) ∙ sym c.is_barren.ensures ∙ t) b pattern.2 w
