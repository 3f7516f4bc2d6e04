-- The projection of a pattern: which tapes include it, and where it ends in each.
use Rattle.std.specs.Prelude.{◌≡◌, ℕ, zero, suc, ◌+◌, ◌*◌, ◌≤◌, List, [], ◌∷◌, ◌++◌, length, take, Some, None, Option, slice_index_or}
use Rattle.event.specs.declared.order.Order.{Order}
use Rattle.matching.specs.Inclusion.{place_after, reach}
use Rattle.matching.specs.Support.{support}

-- the entry of a tape, where there is a place: the tape's number and the place
abbrev pub entry_of : ℕ → Option ℕ → List (ℕ × ℕ)
entry_of number (Some place) = (number, place) ∷ []
entry_of number None = []

-- the entries of some tapes, of which the first has a number: one for each that includes a pattern, with the place after the pattern's leftmost match
abbrev pub projected_from : {K : Type 0} → (K → K → Order) → ℕ → List (List K) → List K → List (ℕ × ℕ)
projected_from order number [] pattern = []
projected_from order number (tape ∷ tapes) pattern =
    entry_of number (reach order tape pattern) ++ projected_from order (number + 1) tapes pattern

-- the projection of a pattern, in tape order
abbrev pub projection : {K : Type 0} → (K → K → Order) → List (List K) → List K → List (ℕ × ℕ)
projection order tapes pattern = projected_from order 0 tapes pattern

-- what a level gives to the next by an event: each entry whose tape has an alike event from its place on, with the place after the first such
abbrev pub grown : {K : Type 0} → (K → K → Order) → List (List K) → K → List (ℕ × ℕ) → List (ℕ × ℕ)
grown order tapes event [] = []
grown order tapes event ((number, place) ∷ level) =
    entry_of number (place_after order (slice_index_or tapes number []) place event) ++ grown order tapes event level

-- how many entries the levels of a pattern's beginnings take, from none up to k events
abbrev pub room : {K : Type 0} → (K → K → Order) → List (List K) → List K → ℕ → ℕ
room order tapes pattern zero = length (projection order tapes (take 0 pattern))
room order tapes pattern (suc k) = room order tapes pattern k + length (projection order tapes (take (suc k) pattern))

-- what holds of the projections under every order
pub record ProjectionStands {K : Type 0} (order : K → K → Order) : Type 0 where
  -- with one more event the projection grows as a level does
  pub grows : (tapes : List (List K)) (pattern : List K) (event : K) → projection order tapes (pattern ++ event ∷ []) ≡ grown order tapes event (projection order tapes pattern)
  -- it has as many entries as tapes include the pattern
  pub counts : (tapes : List (List K)) (pattern : List K) → length (projection order tapes pattern) ≡ support order tapes pattern
  -- the levels of 512 tapes at most take 512 entries each at most
  pub roomy : (tapes : List (List K)) (pattern : List K) (k : ℕ) → length tapes ≤ 512 → room order tapes pattern k ≤ 512 * (k + 1)
