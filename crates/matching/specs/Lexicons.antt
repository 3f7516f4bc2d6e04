-- Lexicons: rows of events, each before the next.
-- In `slice_index_or xs i d`, d is what stands past the end; each i here is within.
use Rattle.std.specs.Prelude.{◌≡◌, ℕ, ◌<◌, Bool, true, ◌&&◌, List, [], ◌∷◌, length, slice_index_or}
use Rattle.event.specs.declared.order.Order.{Order}
use Rattle.event.specs.declared.order.Order.TheVariants.{Before}
use Rattle.event.specs.Orders.{is_before}

-- whether a lexicon rises strictly: each event is before the next
abbrev pub rises_strictly : {K : Type 0} → (K → K → Order) → List K → Bool
rises_strictly order [] = true
rises_strictly order (x ∷ []) = true
rises_strictly order (x ∷ y ∷ more) = is_before (order x y) && rises_strictly order (y ∷ more)

-- every event of a lexicon is before every later one
abbrev pub Rising : {K : Type 0} → (K → K → Order) → List K → Type 0
Rising {K} order lexicon = (i j : ℕ) (d : K) → i < j → j < length lexicon → order (slice_index_or lexicon i d) (slice_index_or lexicon j d) ≡ Before

-- a lexicon rises strictly exactly if every event is before every later one
abbrev pub LexiconStands : {K : Type 0} → (K → K → Order) → Type 0
LexiconStands {K} order =
    (lexicon : List K) → (rises_strictly order lexicon ≡ true → Rising order lexicon) × (Rising order lexicon → rises_strictly order lexicon ≡ true)
