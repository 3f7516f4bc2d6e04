use Rattle.std.proofs.Common.{◌≡◌, ◌++◌, take, drop}
use Rattle.matching.specs.Picks.{picked}
use Rattle.matching.proofs.learning.Picks.lay.Given as goal

abbrev pub invariant-loop-k : goal.invariant-loop-k
invariant-loop-k g l = l.row ≡ picked l.self.events.now (take l.k l.self.places.now) ++ drop l.k l.initial.row
