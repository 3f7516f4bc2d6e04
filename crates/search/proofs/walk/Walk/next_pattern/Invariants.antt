use Rattle.search.specs.Turns.{turns}
use Rattle.search.specs.Walks.{at, limits_of}
use Rattle.search.proofs.Carrying.{Carries}
use Rattle.search.proofs.walk.Walk.next_pattern.Given as goal

abbrev pub invariant-loop-turn : goal.invariant-loop-turn
invariant-loop-turn g l =
    Carries g.K.Kind.order (g.F.Filter.wants l.filter) l.need l.initial.self l.initial.turn l.self l.turn

abbrev pub decreases-loop-turn : goal.decreases-loop-turn
decreases-loop-turn g l = turns (limits_of l.self l.need) (at l.self) l.turn
