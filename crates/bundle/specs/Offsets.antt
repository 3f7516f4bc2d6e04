-- Offsets: tape t runs from offset t to just before offset t + 1.
use Rattle.std.specs.Prelude.{◌≡◌, ℕ, zero, suc, ◌+◌, ◌-◌, ◌<◌, ◌≤◌, Bool, true, cond, not, ◌&&◌, List, [], ◌∷◌, length, Some, None, Option, ◌==◌, nat_le, slice_index, slice_index_or}
use Rattle.std.specs.Bool.{then_some}

-- the lowest of so many numbers from i on that passes a test
abbrev pub lowest : (ℕ → Bool) → ℕ → ℕ → Option ℕ
lowest test i zero = None
lowest test i (suc n) = cond (test i) (Some i) (lowest test (i + 1) n)

-- whether an offset falls below none before it, or is 0 where there is none
abbrev pub begins : (before : Option ℕ) (here : ℕ) → Bool
begins None here = here == 0
begins (Some before) here = nat_le before here

-- whether an offset is the end that it has to be, if it has to
abbrev pub ends : (here : ℕ) (end : Option ℕ) → Bool
ends here None = true
ends here (Some end) = here == end

-- whether an offset may stand: the first is 0, none falls below the one before, and the last is the number of events
abbrev pub right_offset : (before : Option ℕ) (here : ℕ) (end : Option ℕ) → Bool
right_offset before here end = begins before here && ends here end

-- the offset before the one at i, if there is one
abbrev pub offset_before : List ℕ → ℕ → Option ℕ
offset_before offsets i = cond (i == 0) None (Some (slice_index offsets (i - 1)))

-- whether the offset at i may stand
abbrev pub right_at : ℕ → List ℕ → ℕ → Bool
right_at events offsets i =
    right_offset (offset_before offsets i) (slice_index offsets i) (then_some (i + 1 == length offsets) events)

-- what a function gives at each of so many numbers, by what may be its results
abbrev pub Gives : (results : ℕ → ℕ → Type 0) (count : ℕ) (at : ℕ → ℕ) → Type 0
Gives results count at = (i n : ℕ) → i < count → results i n → n ≡ at i

-- the wrong offset: the lowest that may not stand, or the first where there are none
abbrev pub wrong_offset : ℕ → List ℕ → Option ℕ
wrong_offset events [] = Some 0
wrong_offset events (o ∷ os) = lowest (λ i. not (right_at events (o ∷ os) i)) 0 (length (o ∷ os))

-- offsets that may all stand, over so many events
pub record LawfulOffsets (offsets : List ℕ) (events : ℕ) : Type 0 where
  -- there is a first one, and it is 0
  pub first : slice_index_or offsets 0 1 ≡ 0
  -- none falls
  pub rises : (i : ℕ) → i + 1 < length offsets → slice_index offsets i ≤ slice_index offsets (i + 1)
  -- the last is the number of events
  pub last : slice_index_or offsets (length offsets - 1) 0 ≡ events

-- offsets have no wrong one exactly if all may stand
abbrev pub OffsetsStand : Type 0
OffsetsStand = (offsets : List ℕ) (events : ℕ) → (wrong_offset events offsets ≡ None → LawfulOffsets offsets events) × (LawfulOffsets offsets events → wrong_offset events offsets ≡ None)
