-- Openings of a session.
use Rattle.std.specs.Prelude.{ℕ, ◌&&◌, List, [], ◌∷◌, Option, nat_le}
use Rattle.event.specs.declared.order.Order.{Order}
use Rattle.event.specs.declared.refusal.Refusal.{Refusal}
use Rattle.event.specs.declared.refusal.Refusal.TheVariants.{Threshold, Length}
use Rattle.bundle.specs.Tapes.{tapes}
use Rattle.matching.specs.Checks.{unless, first_wrong}
use Rattle.matching.specs.Rows.{rows_refusal}
use Rattle.matching.specs.Support.{support}
use Rattle.law.specs.Rules.{World}

-- what a session is opened with: tape t has the events from offset t to just before offset t + 1
pub record Opening (K : Type 0) : Type 0 where
  pub events : List K
  pub offsets : List ℕ
  pub lexicon : List K
  pub threshold : ℕ
  pub longest : ℕ

-- why an opening is refused, if it is: THRESHOLD, LENGTH, then SIZE, OFFSETS and LEXICON
abbrev pub opening_refusal : {K : Type 0} → (K → K → Order) → Opening K → Option Refusal
opening_refusal order o =
    first_wrong
    (unless (nat_le 1 o.threshold && nat_le o.threshold 512) Threshold
    ∷ unless (nat_le 1 o.longest && nat_le o.longest 16) Length
    ∷ rows_refusal order o.events o.offsets o.lexicon
    ∷ [])

-- the world of a kind of event, by its order
abbrev pub world : {K : Type 0} → (K → K → Order) → World (Opening K) K
world order =
    record {
      refusal = opening_refusal order;
      lexicon = λ o. o.lexicon;
      longest = λ o. o.longest;
      threshold = λ o. o.threshold;
      support = λ o. support order (tapes o.events o.offsets);
    }
