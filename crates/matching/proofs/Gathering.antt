-- Gathering a lexicon: the first so many places pick what is learned from the events so far.
use Rattle.std.proofs.Common.{◌≡◌, ℕ, ◌+◌, ◌<◌, ◌≤◌, min, List, ◌++◌, length, get_or, take, drop, Some, None, Ok, Option, sym, refl, ap, ◌∙◌, subst, arith}
use Rattle.std.proofs.lemmas.List.Edits.{length-insert}
use Rattle.std.proofs.lemmas.List.{length-take-le, at_drop_more, at_drop_all}
use Rattle.std.proofs.lemmas.Bool.Decides.{nat_tests}
use Rattle.std.specs.List.{insert}
use Rattle.event.specs.declared.order.Order.{Order}
use Rattle.event.specs.declared.refusal.Refusal.{Refusal}
use Rattle.matching.specs.Checks.{or_refused}
use Rattle.matching.specs.Learning.{with_event, learned_from, learned, learn_refusal, filled}
use Rattle.matching.specs.Lexicons.{Rising}
use Rattle.matching.specs.Picks.{picked, Within, Placed}
use Rattle.matching.proofs.Classes.{rising_with, length_learned}
use Rattle.matching.proofs.Ordered.{Ordered}
use Rattle.matching.proofs.Picking.{length_picked, picked_inserted, within_inserted}

-- the first so many places, with the events up to i gathered
pub record Gathering {K : Type 0} (order : K → K → Order) (events : List K) (most : ℕ) (places : List ℕ) (count i : ℕ) : Type 0 where
  pub few : count ≤ most
  pub within : Within (take count places) (length events)
  pub rising : Rising order (picked events (take count places))
  pub rest : learned_from order (picked events (take count places)) (drop i events) ≡ learned order events

module _ {K : Type 0} (order : K → K → Order) (events : List K) (most : ℕ) (places : List ℕ) where
  pub gather_none : Gathering order events most places 0 0
  gather_none =
      record { few = omega arith; within = λ k h. absurd (omega arith); rising = λ i j d a b. absurd (omega arith); rest = refl }

  pub gather_all : (count i : ℕ) → Gathering order events most places count i → length events ≤ i → picked events (take count places) ≡ learned order events
  gather_all count i s h = sym (at_drop_all (learned_from order (picked events (take count places))) events i h) ∙ s.rest

  -- one turn, at the event x
  module _ (count i : ℕ) (x : K) (s : Gathering order events most places count i) (room : most ≤ length places) (inside : i < length events) (is : x ≡ get_or events i x) where
    abbrev lexicon : List K
    lexicon = picked events (take count places)

    count_picked : length lexicon ≡ count
    count_picked = length_picked events (take count places) s.within ∙ length-take-le count places (omega (arith, s.few))

    on : learned_from order (with_event order x lexicon) (drop (i + 1) events) ≡ learned order events
    on =
        ap (λ (y : K). learned_from order (with_event order y lexicon) (drop (i + 1) events)) is ∙ sym (at_drop_more (learned_from order lexicon) events i x inside) ∙ s.rest

    -- an alike event is there
    pub gather_same : Placed order lexicon x None → Gathering order events most places count (i + 1)
    gather_same e =
        record { few = s.few; within = s.within; rising = s.rising; rest = ap (λ (l : List K). learned_from order l (drop (i + 1) events)) (sym e) ∙ on }

    -- a new class
    module _ (laws : Ordered order) (at : ℕ) (placed : Placed order lexicon x (Some at)) where
      pub place_within : at ≤ count
      place_within = omega (arith, count_picked, placed.0)

      pub gather_full : most ≤ count → most < length (learned order events)
      gather_full h =
          let a = length_learned order laws (with_event order x lexicon) (drop (i + 1) events) in
          let b = ap length on in
          let c = ap length placed.1 in
          let d = length-insert lexicon at x placed.0 in
          omega (arith, count_picked)

      pub gather_more : (after : List ℕ) → take (count + 1) after ≡ insert (take count places) at i → count < most → Gathering order events most after (count + 1) (i + 1)
      gather_more after e h =
          let front : picked events (take (count + 1) after) ≡ with_event order x lexicon =
          ap (picked events) e ∙ picked_inserted events i x inside is (take count places) at s.within ∙ sym placed.1 in
          record {
            few = omega arith;
            within = subst (λ (l : List ℕ). Within l (length events)) (sym e) (within_inserted (take count places) (length events) at i (omega (arith, place_within, length-take-le count places (omega (arith, s.few)))) inside s.within);
            rising = subst (λ (l : List K). Rising order l) (sym front) (rising_with order laws x lexicon s.rising);
            rest = ap (λ (l : List K). learned_from order l (drop (i + 1) events)) front ∙ on;
          }

-- what was gathered, laid at a row's front
module _ {K : Type 0} (order : K → K → Order) (events row lexicon : List K) (count most : ℕ) (few : length events ≤ 65535) (most-is : most ≡ min (length row) 1024) (enough : count ≤ most) (counted : length lexicon ≡ count) (found : lexicon ≡ learned order events) where
  all_counted : count ≡ length (learned order events)
  all_counted = sym counted ∙ ap length found

  no_refusal : learn_refusal order events (length row) ≡ None
  no_refusal =
      let a = all_counted in
      let b : length (learned order events) ≤ length row = omega arith in
      let c : length (learned order events) ≤ 1024 = omega arith in
      grind (arith, nat_tests)

  pub learn_answer : Ok count ≡ or_refused (learn_refusal order events (length row)) (length (learned order events))
  learn_answer =
      ap (λ (n : ℕ). Ok n) all_counted ∙ sym (ap (λ (o : Option Refusal). or_refused o (length (learned order events))) no_refusal)

  pub learn_after : (after : List K) → after ≡ lexicon ++ drop count row → after ≡ filled (learn_refusal order events (length row)) (learned order events) row
  learn_after after e =
      e ∙ ap (λ (n : ℕ). lexicon ++ drop n row) all_counted ∙ ap (λ (xs : List K). xs ++ drop (length (learned order events)) row) found ∙ sym (ap (λ (o : Option Refusal). filled o (learned order events) row) no_refusal)
