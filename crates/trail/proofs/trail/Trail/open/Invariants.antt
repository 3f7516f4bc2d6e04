use Rattle.std.proofs.Common.{◌≡◌, ℕ, ◌<◌, length, slice_index}
use Rattle.trail.proofs.trail.Trail.open.Given as goal

abbrev pub invariant-loop-tape : goal.invariant-loop-tape
invariant-loop-tape g l =
    record {
      all : length l.roots ≡ l.count;
      numbered : (k : ℕ) → k < l.tape → slice_index l.roots k ≡ k;
    }
