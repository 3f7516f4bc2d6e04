use Rattle.std.proofs.Common.{◌≡◌, drop, Some}
use Rattle.matching.specs.Inclusion.{reach_from, reach}
use Rattle.matching.proofs.inclusion.tape_includes.Given as goal

abbrev pub invariant-loop-event : goal.invariant-loop-event
invariant-loop-event g l =
    reach_from g.K.Kind.order l.tape (Some l.place) (drop l.event-index l.pattern) ≡ reach g.K.Kind.order l.tape l.pattern
