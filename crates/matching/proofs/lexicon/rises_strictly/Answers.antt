use Rattle.std.proofs.Common.{rules, of_calls}
use Rattle.std.proofs.lemmas.Fn.{always_returns_same}
use Rattle.event.specs.Orders.{is_before}
use Rattle.matching.proofs.Rises.{rises_answer}
use Rattle.matching.proofs.lexicon.rises_strictly.Goals as goal

pub returns : goal.returns
returns g c =
    rises_answer g.K.Kind.order c.args.lexicon.now c.is_sorted_by.result
    (c.is_sorted_by.ensures.cases (λ x y. is_before (g.K.Kind.order x y)) (always_returns_same _ _ _ (λ a r f k. search (rules, of_calls))))
