use Rattle.std.proofs.Common.{◌≡◌, sym, ap, ◌∙◌, rules}
use Rattle.event.specs.Orders.{is_before}
use Rattle.matching.proofs.Picking.{read_picked}
use Rattle.matching.proofs.learning.Picks.is_before.Goals as goal

pub returns : goal.returns
returns g c d =
    let picks = c.args.self.now in
    let against = λ (y : g.row.K.Denot). g.K.Kind.order y c.args.event.now in
    let read = read_picked picks.events.now picks.places.now picks.within c.args.at c.requires c.index-self-self.result c.index-self-self.is d in
    let answer : c.eq.result ≡ is_before c.compare.result = search rules in
    answer ∙ ap is_before (c.compare.ensures ∙ ap against (sym c.index-self-self.is ∙ sym read))
