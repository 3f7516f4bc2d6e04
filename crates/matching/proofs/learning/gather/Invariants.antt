use Rattle.std.proofs.Common.{◌≡◌, length}
use Rattle.matching.proofs.Gathering.{Gathering}
use Rattle.matching.proofs.learning.gather.Given as goal

abbrev pub invariant-loop-i : goal.invariant-loop-i
invariant-loop-i g l =
    (length l.places ≡ length l.initial.places) × Gathering g.K.Kind.order l.events l.most l.places l.count l.i
