use Rattle.std.proofs.Common.{◌≡◌, ℕ, ◌<◌, ◌≤◌, ◌∷◌, get_or}
use Rattle.matching.proofs.learning.insert_place.Given as goal

abbrev pub invariant-loop-slot : goal.invariant-loop-slot
invariant-loop-slot l =
    record {
      front : (k : ℕ) → k < l.slot-index → get_or l.slot-items k 0 ≡ get_or (l.place ∷ l.initial.slot-items) k 0;
      rest : (k : ℕ) → l.slot-index ≤ k → get_or l.slot-items k 0 ≡ get_or l.initial.slot-items k 0;
      carried : l.carried ≡ get_or (l.place ∷ l.initial.slot-items) l.slot-index 0;
    }
