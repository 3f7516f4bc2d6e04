-- The events in a file, read one by one.
use Rattle.std.proofs.Common.{◌≡◌, ℕ, ◌+◌, ◌<◌, true, not, List, [], ◌∷◌, ◌++◌, map, length, drop, set, find, is_some, is_ok, is_err, IfSome, Some, None, Ok, Option, Result, sym, refl, ap, ◌∙◌, arith}
use Rattle.std.specs.Option.{option_map}
use Rattle.std.proofs.lemmas.Bool.{false≢true, not-false}
use Rattle.std.proofs.lemmas.List.FromFn.{map-range_with_len_more}
use Rattle.std.proofs.lemmas.List.{length_push}
use Rattle.std.specs.List.{range_with_len}
use Rattle.event.specs.declared.refusal.Refusal.{Refusal}
use Rattle.event.specs.Rows.{or_else}
use Rattle.bundle.specs.Offsets.{lowest}
use Rattle.bundle.specs.Bundles.{events_in, present, event_in, wrong_event}
use Rattle.bundle.proofs.Lawful.{lowest_none}
use Rattle.bundle.proofs.Lowest.{find_lowest, lowest_within}
use Rattle.bundle.proofs.Rows.{write_more}

-- the events up to i
abbrev pub events_to : {K : Type 0} → (width : ℕ) → (List ℕ → Option K) → List ℕ → ℕ → List K
events_to width stands file i = present (map (event_in width stands file) (range_with_len 0 i))

present_push : {K : Type 0} (os : List (Option K)) (x : K) → present (os ++ (Some x ∷ [])) ≡ present os ++ (x ∷ [])
present_push [] x = refl
present_push (Some y ∷ os) x = ap (λ l. y ∷ l) (present_push os x)
present_push (None ∷ os) x = present_push os x

events_more : {K : Type 0} (width : ℕ) (stands : List ℕ → Option K) (file : List ℕ) (i : ℕ) (x : K) → event_in width stands file i ≡ Some x → events_to width stands file (i + 1) ≡ events_to width stands file i ++ (x ∷ [])
events_more width stands file i x e =
    let m : map (event_in width stands file) (range_with_len 0 (i + 1)) ≡ map (event_in width stands file) (range_with_len 0 i) ++ (event_in width stands file i ∷ []) = map-range_with_len_more (event_in width stands file) 0 i i (omega arith) in
    let p = present_push (map (event_in width stands file) (range_with_len 0 i)) x in
    cc

-- a row whose front was overwritten by the events up to i
abbrev pub Copied : {K : Type 0} → (width : ℕ) → (List ℕ → Option K) → List ℕ → (start : List K) → ℕ → List K → Type 0
Copied width stands file start i row =
    (length (events_to width stands file i) ≡ i) × (row ≡ events_to width stands file i ++ drop i start)

err_of_none : {K : Type 0} (e : Refusal) (o : Option K) → is_err (or_else e o) ≡ not (is_some o)
err_of_none e (Some x) = refl
err_of_none e None = refl

ok_of_some : {K : Type 0} (e : Refusal) (o : Option K) → is_some o ≡ true → is_ok (or_else e o) ≡ true
ok_of_some e (Some x) h = refl
ok_of_some e None h = absurd (false≢true h)

some_of_ok : {K : Type 0} (e : Refusal) (o : Option K) (x : K) → Ok x ≡ or_else e o → o ≡ Some x
some_of_ok e (Some y) x h = cc
some_of_ok e None x h = absurd (let z : ◌≡◌ {A = ℕ} 0 1 = cc in omega arith)

same_option : (o : Option ℕ) → option_map (λ x. x) o ≡ o
same_option (Some x) = refl
same_option None = refl

module _ {K : Type 0} (width : ℕ) (stands : List ℕ → Option K) (file : List ℕ) where
  -- the first event that is read as none is the wrong event
  pub wrong_found : (e : Refusal) (n : ℕ) (o : Option ℕ) → n ≡ events_in file → option_map (λ x. x) o ≡ find (λ i. is_err (or_else e (event_in width stands file i))) (range_with_len 0 n) → o ≡ wrong_event width stands file
  wrong_found e n o all found =
      let outside = λ (i : ℕ). not (is_some (event_in width stands file i)) in
      sym (same_option o) ∙ found ∙ find_lowest (λ i. is_err (or_else e (event_in width stands file i))) outside (λ k. err_of_none e (event_in width stands file k)) 0 n ∙ ap (lowest outside 0) all

  pub wrong_within : (n : ℕ) → n ≡ events_in file → IfSome (wrong_event width stands file) (λ i. i < n)
  wrong_within n all =
      lowest_within (λ k. not (is_some (event_in width stands file k))) 0 (events_in file) n (omega arith)

  -- where there is none, each event is read
  pub is_read : (e : Refusal) (i : ℕ) (r : Result K Refusal) → wrong_event width stands file ≡ None → i < events_in file → r ≡ or_else e (event_in width stands file i) → is_ok r ≡ true
  is_read e i r none within read =
      ap is_ok read ∙ ok_of_some e (event_in width stands file i) (not-false (is_some (event_in width stands file i)) (lowest_none (λ k. not (is_some (event_in width stands file k))) 0 (events_in file) none i (omega arith) (omega arith)))

  pub copied_more : (e : Refusal) (i : ℕ) (r : Result K Refusal) (start row after : List K) (x : K) → r ≡ or_else e (event_in width stands file i) → r ≡ Ok x → i < length start → Copied width stands file start i row → after ≡ set row i x → Copied width stands file start (i + 1) after
  copied_more e i r start row after x read ok room h put =
      let more : events_to width stands file (i + 1) ≡ events_to width stands file i ++ (x ∷ []) = events_more width stands file i x (some_of_ok e (event_in width stands file i) x (sym ok ∙ read)) in
      let write : set (events_to width stands file i ++ drop i start) i x ≡ (events_to width stands file i ++ (x ∷ [])) ++ drop (i + 1) start = write_more (events_to width stands file i) start i x h.0 room in
      (ap length more ∙ length_push (events_to width stands file i) x ∙ ap (λ n. n + 1) h.0, put ∙ ap (λ (l : List K). set l i x) h.1 ∙ write ∙ ap (λ (l : List K). l ++ drop (i + 1) start) (sym more))
