-- The lexicon that is learned from events: one event for each class of alike events, in rising order.
-- In `slice_index_or xs i d`, d is what stands past the end; each i here is within.
use Rattle.std.specs.Prelude.{◌≡◌, ℕ, ◌<◌, ◌&&◌, List, [], ◌∷◌, ◌++◌, length, drop, Some, None, Option, ◌≢◌, nat_le, slice_index_or}
use Rattle.event.specs.declared.order.Order.{Order}
use Rattle.event.specs.declared.order.Order.TheVariants.{Before, Alike, After}
use Rattle.event.specs.declared.refusal.Refusal.{Refusal}
use Rattle.event.specs.declared.refusal.Refusal.TheVariants as refusal
use Rattle.matching.specs.Checks.{unless, first_wrong}
use Rattle.matching.specs.Lexicons.{Rising}
use Rattle.matching.specs.Rows.{few_events}

-- one of three, by how two events stand to each other
abbrev pub by_order : {X : Type 0} → Order → X → X → X → X
by_order Before before alike after = before
by_order Alike before alike after = alike
by_order After before alike after = after

-- a rising lexicon with an event in its place, unless an alike one is there
abbrev pub with_event : {K : Type 0} → (K → K → Order) → K → List K → List K
with_event order event [] = event ∷ []
with_event order event (x ∷ xs) =
    by_order (order x event) (x ∷ with_event order event xs) (x ∷ xs) (event ∷ x ∷ xs)

-- a lexicon with some events, in reading order
abbrev pub learned_from : {K : Type 0} → (K → K → Order) → List K → List K → List K
learned_from order lexicon [] = lexicon
learned_from order lexicon (event ∷ events) = learned_from order (with_event order event lexicon) events

-- the lexicon that is learned from events
abbrev pub learned : {K : Type 0} → (K → K → Order) → List K → List K
learned order events = learned_from order [] events

-- why learning into a row of so many places is refused, if it is
abbrev pub learn_refusal : {K : Type 0} → (K → K → Order) → List K → ℕ → Option Refusal
learn_refusal order events room =
    first_wrong
    (unless (few_events (length events)) refusal.Size
    ∷ unless (nat_le (length (learned order events)) room && nat_le (length (learned order events)) 1024) refusal.Room
    ∷ [])

-- a row after learning: the lexicon at its front and its rest as it was, or all as it was where learning is refused
abbrev pub filled : {X : Type 0} → Option Refusal → List X → List X → List X
filled None xs row = xs ++ drop (length xs) row
filled (Some refused) xs row = row

-- a lexicon has one event that is alike to an event, and only one
pub record OneAlike {K : Type 0} (order : K → K → Order) (lexicon : List K) (event : K) : Type 0 where
  pub place : ℕ
  pub within : place < length lexicon
  pub same : (d : K) → order (slice_index_or lexicon place d) event ≡ Alike
  pub only : (k : ℕ) (d : K) → k < length lexicon → order (slice_index_or lexicon k d) event ≡ Alike → k ≡ place

-- an event is one of some events, and the first of its class in reading order
pub record FirstOfClass {K : Type 0} (order : K → K → Order) (events : List K) (event : K) : Type 0 where
  pub place : ℕ
  pub within : place < length events
  pub is : (d : K) → slice_index_or events place d ≡ event
  pub first : (k : ℕ) (d : K) → k < place → order (slice_index_or events k d) event ≢ Alike

-- a lexicon that has one event for each class of alike events
pub record Learns {K : Type 0} (order : K → K → Order) (events lexicon : List K) : Type 0 where
  -- it rises strictly: every event is before every later one
  pub rising : Rising order lexicon
  -- each event has exactly one alike event in it
  pub one : (i : ℕ) (d : K) → i < length events → OneAlike order lexicon (slice_index_or events i d)
  -- each of its events is the first of its class
  pub first : (k : ℕ) (d : K) → k < length lexicon → FirstOfClass order events (slice_index_or lexicon k d)

-- what is learned is such a lexicon
abbrev pub LearningStands : {K : Type 0} → (K → K → Order) → Type 0
LearningStands {K} order = (events : List K) → Learns order events (learned order events)
