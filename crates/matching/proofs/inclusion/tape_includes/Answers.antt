use Rattle.std.proofs.Common.{is_some, ap, ◌∙◌}
use Rattle.matching.proofs.Reaching.{reach_on, reach_stops, reach_all}
use Rattle.matching.proofs.inclusion.tape_includes.Goals as goal

pub returns-in_default : goal.returns-in_default
returns-in_default g c =
    ap is_some (reach_stops g.K.Kind.order c.args.tape.now c.loop-event.place c.args.pattern.now c.loop-event.event-index c.event-item.result c.loop-event-test.true c.event-item.is c.in_default.ensures.value ∙ c.loop-event.invariant)

pub loop-event-preserved : goal.loop-event-preserved
loop-event-preserved g c =
    reach_on g.K.Kind.order c.args.tape.now c.loop-event.place c.args.pattern.now c.loop-event.event-index c.event-item.result c.loop-event-test.true c.event-item.is c.in-Some.next c.in-Some.ensures.value
    ∙ c.loop-event.invariant

pub returns : goal.returns
returns g c =
    ap is_some (reach_all g.K.Kind.order c.args.tape.now c.loop-event.place c.args.pattern.now c.loop-event.event-index c.loop-event-test.false ∙ c.loop-event.invariant)
