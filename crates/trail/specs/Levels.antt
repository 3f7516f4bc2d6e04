-- Levels that lie one behind the other in two rows.
use Rattle.std.specs.Prelude.{◌≡◌, ℕ, zero, suc, ◌+◌, ◌*◌, ◌<◌, ◌≤◌, List, [], ◌∷◌, ◌++◌, slice_index}
use Rattle.trail.specs.declared.level.Head.{Head}
use Rattle.trail.specs.declared.level.Rows.{Rows}

-- so many entries of the two rows, from a place of the rows on
abbrev pub entries : List ℕ → List ℕ → ℕ → ℕ → List (ℕ × ℕ)
entries tapes places start zero = []
entries tapes places start (suc n) =
    entries tapes places start n ++ (slice_index tapes (start + n), slice_index places (start + n)) ∷ []

-- the level that a head stands for
abbrev pub level : Rows → Head → List (ℕ × ℕ)
level rows head = entries rows.tapes rows.places head.start head.count

-- where a head's level ends
abbrev pub end : Head → ℕ
end head = head.start + head.count

-- the entry at a place of the rows
abbrev pub entry_at : Rows → ℕ → ℕ × ℕ
entry_at rows at = (slice_index rows.tapes at, slice_index rows.places at)

-- below a place, the later rows are as the earlier ones
pub record Kept (n : ℕ) (earlier later : Rows) : Type 0 where
  pub tapes : (i : ℕ) → i < n → slice_index later.tapes i ≡ slice_index earlier.tapes i
  pub places : (i : ℕ) → i < n → slice_index later.places i ≡ slice_index earlier.places i

-- level k lies from bound k to bound k + 1, has 512 entries at most, and ends at 512 * (k + 1) at most
abbrev pub Step : List ℕ → ℕ → Type 0
Step bounds k =
    (slice_index bounds k ≤ slice_index bounds (k + 1)) × (slice_index bounds (k + 1) ≤ slice_index bounds k + 512) × (slice_index bounds (k + 1) ≤ 512 * (k + 1))

-- so does every level up to a depth, one behind the other
abbrev pub Steps : List ℕ → ℕ → Type 0
Steps bounds depth = (k : ℕ) → k ≤ depth → Step bounds k
