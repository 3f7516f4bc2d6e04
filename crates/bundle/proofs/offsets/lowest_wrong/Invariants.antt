use Rattle.std.proofs.Common.{◌≡◌, ℕ, map}
use Rattle.std.specs.List.{range_with_len}
use Rattle.bundle.specs.Offsets.{Gives, offset_before, wrong_offset}
use Rattle.bundle.proofs.Lowest.{wrong_from}
use Rattle.bundle.proofs.offsets.lowest_wrong.Given as goal

abbrev pub invariant-loop-index : goal.invariant-loop-index
invariant-loop-index g l =
    (at : ℕ → ℕ) → Gives (goal.F-post g l.offset) l.count at → (l.before ≡ offset_before (map at (range_with_len 0 l.count)) l.index) × (wrong_from l.events (map at (range_with_len 0 l.count)) l.index ≡ wrong_offset l.events (map at (range_with_len 0 l.count)))
