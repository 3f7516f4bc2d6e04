-- A bundle file read, and its lexicon learned, into rows that have room for every one.
use Rattle.std.proofs.Common.{◌≡◌, ℕ, ◌+◌, ◌≤◌, Bool, true, not, ◌&&◌, leb, List, [], ◌∷◌, ◌++◌, map, length, take, drop, is_some, Some, None, Ok, Err, Option, Result, sym, refl, ap, ◌∙◌, subst, arith}
use Rattle.std.specs.List.{range_with_len}
use Rattle.std.proofs.lemmas.List.FromFn.{length-map-range_with_len, get_or-map-range_with_len}
use Rattle.std.proofs.lemmas.List.{take_at, length-map, length-append}
use Rattle.std.proofs.lemmas.Bool.Decides.{nat_tests}
use Rattle.event.specs.declared.order.Order.{Order}
use Rattle.event.specs.declared.refusal.Refusal.{Refusal}
use Rattle.event.specs.declared.refusal.Refusal.TheVariants as refusal
use Rattle.event.proofs.Laying.{laid_fits}
use Rattle.bundle.specs.declared.fault.BundleFault.{BundleFault}
use Rattle.bundle.specs.Bundles.{tapes_in, events_in, offsets_in, event_in, events_of, present, first_wrong, room_check, or_fault, file_fault, read_fault, filled}
use Rattle.bundle.specs.Offsets.{wrong_offset}
use Rattle.bundle.proofs.Checks.{sound_from, some_present}
use Rattle.bundle.proofs.Lawful.{lawful_stands}
use Rattle.bundle.proofs.Rows.{length_offsets}
use Rattle.bundle.proofs.Verdicts.{some_of_err}
use Rattle.matching.specs.Checks.{unless, or_refused, first_wrong as refusals}
use Rattle.matching.specs.Learning as learning
use Rattle.matching.specs.Learning.{learned, learn_refusal}
use Rattle.matching.specs.Rows.{few_tapes, few_events, offset_check, bundle_refusal}
use Rattle.query.specs.declared.line.Query.{Query}
use Rattle.report.specs.declared.fault.ListerFault.{ListerFault}
use Rattle.report.specs.declared.fault.ListerFault.TheVariants as lister
use Rattle.reply.specs.declared.contents.ListError.{ListError}
use Rattle.reply.specs.Listed.{Listed, then_session}
use Rattle.reply.specs.Outcomes.{Outcome}
use Rattle.reply.specs.Replies.{reading_fault, kind_text}

-- what an answer tells of the check before it
counts_of_ok : (o : Option BundleFault) (t e a b : ℕ) → Ok (a, b) ≡ or_fault {X = ℕ × ℕ} o (t, e) → (o ≡ None) × (a ≡ t) × (b ≡ e)
counts_of_ok None t e a b h =
    let p : ◌≡◌ {A = ℕ × ℕ} (a, b) (t, e) = cc in (refl, ap (λ (q : ℕ × ℕ). q.0) p, ap (λ (q : ℕ × ℕ). q.1) p)
counts_of_ok (Some f) t e a b h = absurd (let z : ◌≡◌ {A = ℕ} 0 1 = cc in omega arith)

count_of_ok : (o : Option Refusal) (n m : ℕ) → Ok m ≡ or_refused o n → (o ≡ None) × (m ≡ n)
count_of_ok None n m e = (refl, cc)
count_of_ok (Some r) n m e = absurd (let z : ◌≡◌ {A = ℕ} 0 1 = cc in omega arith)

refusal_of_err : (o : Option Refusal) (n : ℕ) (r : Refusal) → Err r ≡ or_refused o n → o ≡ Some r
refusal_of_err None n r e = absurd (let z : ◌≡◌ {A = ℕ} 0 1 = cc in omega arith)
refusal_of_err (Some s) n r e = cc

-- what was laid at a row's front
front_filled : {X : Type 0} (o : Option BundleFault) (xs row : List X) (n : ℕ) → o ≡ None → n ≡ length xs → length xs ≤ length row → take n (filled o xs row) ≡ xs
front_filled {X} o xs row n none at fits =
    ap (λ (p : Option BundleFault). take n (filled p xs row)) none ∙ ap (take n) (laid_fits xs row fits) ∙ take_at xs (drop (length xs) row) n (sym at)

-- offsets that stand are accepted
bundle_accepted : (events : ℕ) (offsets : List ℕ) → length offsets ≤ 513 → events ≤ 65535 → wrong_offset events offsets ≡ None → bundle_refusal events offsets ≡ None
bundle_accepted events offsets few less none =
    let size : few_tapes offsets && few_events events ≡ true = grind (arith, nat_tests) in
    ap (λ (b : Bool). refusals (unless b refusal.Size ∷ offset_check events offsets ∷ [])) size
    ∙ ap (λ (o : Option ℕ). refusals (unless (not (is_some o)) refusal.Offsets ∷ [])) none

module _ {K : Type 0} (order : K → K → Order) where
  -- a row of 1,024 and more has room for every lexicon
  lexicon_room : (events : List K) (room : ℕ) → 1024 ≤ room → learn_refusal order events room ≡ learn_refusal order events 1024
  lexicon_room events room h =
      let n = length (learned order events) in
      let same : leb n room && leb n 1024 ≡ leb n 1024 && leb n 1024 = grind (arith, nat_tests) in
      ap (λ (b : Bool). refusals (unless (few_events (length events)) refusal.Size ∷ unless b refusal.Room ∷ [])) same

  module _ (slice events : List K) (same : slice ≡ events) (room : ℕ) (h : 1024 ≤ room) where
    learns : learn_refusal order slice room ≡ learn_refusal order events 1024
    learns = lexicon_room slice room h ∙ ap (λ (l : List K). learn_refusal order l 1024) same

    -- learning that is refused
    pub not_learned : (r : Refusal) → Err r ≡ or_refused (learn_refusal order slice room) (length (learned order slice)) → learn_refusal order events 1024 ≡ Some r
    not_learned r e = sym learns ∙ refusal_of_err (learn_refusal order slice room) (length (learned order slice)) r e

    -- and learning that is not
    pub was_learned :
        (n : ℕ) →
        Ok n ≡ or_refused (learn_refusal order slice room) (length (learned order slice)) →
        (row after : List K) →
        after ≡ learning.filled (learn_refusal order slice room) (learned order slice) row →
        (learn_refusal order events 1024 ≡ None) × (take n after ≡ learned order events) × (n ≤ length after)
    was_learned n e row after is =
        let k = count_of_ok (learn_refusal order slice room) (length (learned order slice)) n e in
        let laid : after ≡ learned order slice ++ drop (length (learned order slice)) row =
        is ∙ ap (λ (o : Option Refusal). learning.filled o (learned order slice) row) k.0 in (
          sym learns ∙ k.0,
          ap (take n) laid ∙ take_at (learned order slice) (drop (length (learned order slice)) row) n (sym k.1) ∙ ap (learned order) same,
          omega (arith, k.1, ap length laid, length-append (learned order slice) (drop (length (learned order slice)) row)),
        )

module _ {K : Type 0} (number width : ℕ) (stands : List ℕ → Option K) (file : List ℕ) where
  roomy : (o : Option BundleFault) (a b : ℕ) → 513 ≤ a → 65535 ≤ b → file_fault number width stands file ≡ o → first_wrong (o ∷ room_check file a b ∷ []) ≡ o
  roomy (Some f) a b p q e = refl
  roomy None a b p q e =
      let s = sound_from number width stands file e in
      let t : tapes_in file + 1 ≤ a = omega (arith, s.few_tapes) in
      let n : events_in file ≤ b = omega (arith, s.few_events) in
      let r : room_check file a b ≡ None = grind (arith, nat_tests) in
      ap (λ (o : Option BundleFault). first_wrong (o ∷ [])) r

  -- such rows never are too short
  room_for_all : (a b : ℕ) → 513 ≤ a → 65535 ≤ b → read_fault number width stands file a b ≡ file_fault number width stands file
  room_for_all a b p q = roomy (file_fault number width stands file) a b p q refl

  -- a file with no fault has as many events as it says
  length_events_of : file_fault number width stands file ≡ None → length (events_of width stands file) ≡ events_in file
  length_events_of e =
      let s = sound_from number width stands file e in
      let f = event_in width stands file in
      let os = map f (range_with_len 0 (events_in file)) in
      let n : length os ≡ events_in file = length-map-range_with_len f 0 (events_in file) in
      let all : os ≡ map Some (present os) = some_present os (λ k h. ap is_some (get_or-map-range_with_len f 0 (events_in file) k k None (omega arith) (omega arith)) ∙ s.events k (omega arith)) in
      let m : length (map Some (present os)) ≡ length (present os) = length-map (present os) Some in
      sym m ∙ sym (ap length all) ∙ n

  -- what was read is accepted
  pub read_accepted : file_fault number width stands file ≡ None → bundle_refusal (length (events_of width stands file)) (offsets_in file) ≡ None
  read_accepted e =
      let s = sound_from number width stands file e in
      let n = length_events_of e in
      let l = length_offsets file in
      let none : wrong_offset (events_in file) (offsets_in file) ≡ None = lawful_stands (offsets_in file) (events_in file) s.lawful in
      ap (λ (k : ℕ). bundle_refusal k (offsets_in file)) n ∙ bundle_accepted (events_in file) (offsets_in file) (omega (arith, s.few_tapes)) s.few_events none

  -- a file of so many tapes and events was read, to the fronts of two rows
  pub record Read (offset_row : List ℕ) (event_row : List K) (t e : ℕ) : Type 0 where
    pub none : file_fault number width stands file ≡ None
    pub offsets : take (t + 1) offset_row ≡ offsets_in file
    pub events : take e event_row ≡ events_of width stands file
    pub few : t ≤ 512
    pub tape_room : t + 1 ≤ length offset_row
    pub event_room : e ≤ length event_row

  module _ (offset_row : List ℕ) (event_row : List K) (p : 513 ≤ length offset_row) (q : 65535 ≤ length event_row) where
    abbrev fault : Option BundleFault
    fault = read_fault number width stands file (length offset_row) (length event_row)

    pub not_read : (f : BundleFault) → Err f ≡ or_fault {X = ℕ × ℕ} fault (tapes_in file, events_in file) → file_fault number width stands file ≡ Some f
    not_read f e = sym (room_for_all (length offset_row) (length event_row) p q) ∙ some_of_err fault (tapes_in file, events_in file) f e

    pub was_read :
        (t e : ℕ) →
        Ok (t, e) ≡ or_fault {X = ℕ × ℕ} fault (tapes_in file, events_in file) →
        (offsets_after : List ℕ) (events_after : List K) →
        length offsets_after ≡ length offset_row →
        length events_after ≡ length event_row →
        offsets_after ≡ filled fault (offsets_in file) offset_row →
        events_after ≡ filled fault (events_of width stands file) event_row →
        Read offsets_after events_after t e
    was_read t e h os es ol el oi ei =
        let n = counts_of_ok fault (tapes_in file) (events_in file) t e h in
        let x = n.1 in
        let y = n.2 in
        let none : file_fault number width stands file ≡ None = sym (room_for_all (length offset_row) (length event_row) p q) ∙ n.0 in
        let s = sound_from number width stands file none in
        let lo = length_offsets file in
        let le = length_events_of none in
        record {
          none = none;
          offsets = ap (take (t + 1)) oi ∙ front_filled fault (offsets_in file) offset_row (t + 1) n.0 (omega arith) (omega (arith, s.few_tapes));
          events = ap (take e) ei ∙ front_filled fault (events_of width stands file) event_row e n.0 (omega arith) (omega (arith, s.few_events));
          few = omega (arith, s.few_tapes);
          tape_room = omega (arith, s.few_tapes);
          event_room = omega (arith, s.few_events);
        }

  module _ (l : Listed) (order : K → K → Order) (query : Query) where
    -- the fault of a file that was not read, or whose lexicon was not learned
    pub reading_fails : (f : BundleFault) → file_fault number width stands file ≡ Some f → reading_fault l number width stands order query file ≡ Some (lister.Bundle f)
    reading_fails f e =
        let rest = refusals (learn_refusal order (events_of width stands file) 1024 ∷ l.refusal order query (offsets_in file) (events_of width stands file) (learned order (events_of width stands file)) ∷ []) in
        ap (λ (o : Option BundleFault). then_session o rest) e

    pub learning_fails : (r : Refusal) → file_fault number width stands file ≡ None → learn_refusal order (events_of width stands file) 1024 ≡ Some r → reading_fault l number width stands order query file ≡ Some (lister.Session r)
    learning_fails r none e =
        let last = l.refusal order query (offsets_in file) (events_of width stands file) (learned order (events_of width stands file)) in
        ap (λ (o : Option BundleFault). then_session o (refusals (learn_refusal order (events_of width stands file) 1024 ∷ last ∷ []))) none
        ∙ ap (λ (o : Option Refusal). then_session None (refusals (o ∷ last ∷ []))) e

    last_decides : (o : Option Refusal) → refusals (None ∷ o ∷ []) ≡ o
    last_decides None = refl
    last_decides (Some r) = refl

    -- else what comes of the rows comes of the file
    pub rows_outcome :
        (label : K → List ℕ) →
        file_fault number width stands file ≡ None →
        learn_refusal order (events_of width stands file) 1024 ≡ None →
        (os : List ℕ) (es ws : List K) →
        os ≡ offsets_in file →
        es ≡ events_of width stands file →
        ws ≡ learned order (events_of width stands file) →
        (was is : List ℕ) (r : Result (Unit {0}) ListError) →
        Outcome (then_session None (l.refusal order query os es ws)) was (l.lines order label query os es ws) is r →
        Outcome (reading_fault l number width stands order query file) was (kind_text l width stands order label query file) is r
    rows_outcome label none learns os es ws offsets events words was is r x =
        let last = l.refusal order query (offsets_in file) (events_of width stands file) (learned order (events_of width stands file)) in
        let fault : then_session None last ≡ reading_fault l number width stands order query file =
        ap (then_session None) (sym (last_decides last))
        ∙ ap (λ (o : Option Refusal). then_session None (refusals (o ∷ last ∷ []))) (sym learns)
        ∙ ap (λ (f : Option BundleFault). then_session f (refusals (learn_refusal order (events_of width stands file) 1024 ∷ last ∷ []))) (sym none) in
        subst (λ (f : Option ListerFault). Outcome f was (kind_text l width stands order label query file) is r) fault
        (subst (λ (q : List ℕ × List K × List K). Outcome (then_session None (l.refusal order query q.0 q.1 q.2)) was (l.lines order label query q.0 q.1 q.2) is r)
        (ap (λ (a : List ℕ). (a, es, ws)) offsets ∙ ap (λ (b : List K). (offsets_in file, b, ws)) events ∙ ap (λ (d : List K). (offsets_in file, events_of width stands file, d)) words) x)
