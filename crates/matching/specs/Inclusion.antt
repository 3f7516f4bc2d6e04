-- When a tape includes a pattern.
-- In `slice_index_or xs i d`, d is what stands past the end; each i here is within.
use Rattle.std.specs.Prelude.{◌≡◌, ℕ, ◌+◌, ◌<◌, Bool, true, cond, List, [], ◌∷◌, length, drop, is_some, Some, None, Option, slice_index, slice_index_or}
use Rattle.event.specs.declared.order.Order.{Order}
use Rattle.event.specs.declared.order.Order.TheVariants.{Alike}
use Rattle.event.specs.Orders.{is_alike}

-- the place after the first of some events that is alike to an event, where they stand from a place on
abbrev pub first_alike : {K : Type 0} → (K → K → Order) → List K → ℕ → K → Option ℕ
first_alike order [] place event = None
first_alike order (x ∷ xs) place event =
    cond (is_alike (order x event)) (Some (place + 1)) (first_alike order xs (place + 1) event)

-- the place after the first event from a place on that is alike to an event, or none
abbrev pub place_after : {K : Type 0} → (K → K → Order) → List K → ℕ → K → Option ℕ
place_after order tape from event = first_alike order (drop from tape) from event

-- the place behind a pattern from a place on, if there is one: each event is taken where it first stands
abbrev pub reach_from : {K : Type 0} → (K → K → Order) → List K → Option ℕ → List K → Option ℕ
reach_from order tape from [] = from
reach_from order tape (Some place) (event ∷ pattern) = reach_from order tape (place_after order tape place event) pattern
reach_from order tape None (event ∷ pattern) = None

-- the place behind a pattern, or none
abbrev pub reach : {K : Type 0} → (K → K → Order) → List K → List K → Option ℕ
reach order tape pattern = reach_from order tape (Some 0) pattern

-- whether a tape includes a pattern
abbrev pub includes : {K : Type 0} → (K → K → Order) → List K → List K → Bool
includes order tape pattern = is_some (reach order tape pattern)

-- places of a tape where a pattern stands
pub record Embedding {K : Type 0} (order : K → K → Order) (tape pattern : List K) : Type 0 where
  -- one place for each event of the pattern
  pub places : List ℕ
  pub each : length places ≡ length pattern
  -- they rise strictly
  pub rise : (i j : ℕ) → i < j → j < length places → slice_index places i < slice_index places j
  -- they lie in the tape
  pub within : (i : ℕ) → i < length places → slice_index places i < length tape
  -- the tape's event at each is alike to the pattern's
  pub same : (i : ℕ) (d : K) → i < length places → order (slice_index_or tape (slice_index places i) d) (slice_index_or pattern i d) ≡ Alike

-- a tape includes a pattern exactly if it has such places
pub record InclusionIsEmbedding {K : Type 0} (order : K → K → Order) : Type 0 where
  -- one that includes it has them
  pub found : (tape pattern : List K) → includes order tape pattern ≡ true → Embedding order tape pattern
  -- one that has them includes it
  pub placed : (tape pattern : List K) → Embedding order tape pattern → includes order tape pattern ≡ true
