-- The rows of an opening, and why they are refused.
use Rattle.std.specs.Prelude.{ℕ, Bool, not, ◌&&◌, List, [], ◌∷◌, length, is_some, Option, nat_le}
use Rattle.event.specs.declared.order.Order.{Order}
use Rattle.event.specs.declared.refusal.Refusal.{Refusal}
use Rattle.event.specs.declared.refusal.Refusal.TheVariants as refusal
use Rattle.bundle.specs.Offsets.{wrong_offset}
use Rattle.matching.specs.Checks.{unless, first_wrong}
use Rattle.matching.specs.Lexicons.{rises_strictly}

-- whether offsets are at most one more than 512 tapes have
abbrev pub few_tapes : List ℕ → Bool
few_tapes offsets = nat_le (length offsets) 513

-- whether events are at most 65,535
abbrev pub few_events : ℕ → Bool
few_events events = nat_le events 65535

-- the check of the offsets of so many events
abbrev pub offset_check : ℕ → List ℕ → Option Refusal
offset_check events offsets = unless (not (is_some (wrong_offset events offsets))) refusal.Offsets

-- why a bundle of so many events is refused, if it is
abbrev pub bundle_refusal : ℕ → List ℕ → Option Refusal
bundle_refusal events offsets =
    first_wrong (unless (few_tapes offsets && few_events events) refusal.Size ∷ offset_check events offsets ∷ [])

-- why the rows of an opening are refused, if they are
abbrev pub rows_refusal : {K : Type 0} → (K → K → Order) → (events : List K) → (offsets : List ℕ) → (lexicon : List K) → Option Refusal
rows_refusal order events offsets lexicon =
    first_wrong
    (unless (few_tapes offsets && (few_events (length events) && nat_le (length lexicon) 1024)) refusal.Size
    ∷ offset_check (length events) offsets
    ∷ unless (rises_strictly order lexicon) refusal.Lexicon
    ∷ [])
