use Rattle.std.proofs.Common.{◌≡◌, ◌-◌, ◌≤◌, length}
use Rattle.matching.specs.Inclusion.{place_after}
use Rattle.matching.proofs.inclusion.place_after.Given as goal

abbrev pub invariant-loop-i : goal.invariant-loop-i
invariant-loop-i g l =
    (l.from ≤ l.i)
    × (place_after g.K.Kind.order l.tape l.i l.event ≡ place_after g.K.Kind.order l.tape l.from l.event)

abbrev pub decreases-loop-i : goal.decreases-loop-i
decreases-loop-i g l = length l.tape - l.i
