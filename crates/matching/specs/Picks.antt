-- A lexicon that is kept as places of its events.
use Rattle.std.specs.Prelude.{◌≡◌, ℕ, ◌<◌, ◌≤◌, false, List, [], ◌∷◌, ◌++◌, length, take, drop, Some, None, Option, slice_index, slice_index_or}
use Rattle.std.specs.List.{insert}
use Rattle.event.specs.declared.order.Order.{Order}
use Rattle.event.specs.declared.order.Order.TheVariants.{Before}
use Rattle.matching.specs.Learning.{with_event}
use Rattle.event.specs.Orders.{is_before}

-- the events at some places
abbrev pub picked : {K : Type 0} → List K → List ℕ → List K
picked events [] = []
picked events (place ∷ places) = take 1 (drop place events) ++ picked events places

-- each of some places is below a number
abbrev pub Within : List ℕ → ℕ → Type 0
Within places n = (k : ℕ) → k < length places → slice_index places k < n

-- where an event stands in a rising lexicon, or would stand
pub record Stands {K : Type 0} (order : K → K → Order) (lexicon : List K) (event : K) (place : ℕ) : Type 0 where
  pub inside : place ≤ length lexicon
  -- all in front of it are before the event
  pub front : (k : ℕ) (d : K) → k < place → order (slice_index_or lexicon k d) event ≡ Before
  -- none from it on is before the event
  pub back : (k : ℕ) (d : K) → place ≤ k → k < length lexicon → is_before (order (slice_index_or lexicon k d) event) ≡ false

-- where an event makes a lexicon longer, or none where it does not
abbrev pub Placed : {K : Type 0} → (K → K → Order) → List K → K → Option ℕ → Type 0
Placed order lexicon event (Some place) = (place ≤ length lexicon) × (with_event order event lexicon ≡ insert lexicon place event)
Placed order lexicon event None = with_event order event lexicon ≡ lexicon
