use Rattle.std.proofs.Common.{◌≡◌, ℕ, ◌+◌, ◌-◌, ◌≤◌, List, [], ◌∷◌, ◌++◌, length, get_or, take, drop, Some, None, decimal, Option, sym, refl, ap, ◌∙◌, arith}
use Rattle.std.proofs.lemmas.List.{drop_more, drop_all, take-append-drop}
use Rattle.std.proofs.lemmas.Bool.Decides.{nat_tests}
use Rattle.event.specs.declared.station.Station.{Station}
use Rattle.event.specs.Numerals.{numeral}
use Rattle.event.specs.Stations.{action_of, outcome_of, reported, read_event, label_of, labelled_by, letter_of, outcome_for}
use Rattle.event.proofs.Exactness.{numeral_exact, numeral_le}
use Rattle.event.proofs.station.station_labels_are_exact.Goals as goal

-- a text that ends in a colon and a letter is what stands before them, and these
ends : (bs : List ℕ) → 2 ≤ length bs → bs ≡ take (length bs - 2) bs ++ (get_or bs (length bs - 2) 0 ∷ get_or bs (length bs - 1) 0 ∷ [])
ends bs h =
    let n = length bs - 2 in
    let a : drop n bs ≡ get_or bs n 0 ∷ drop (n + 1) bs = drop_more bs n 0 (omega arith) in
    let b : drop (n + 1) bs ≡ get_or bs (n + 1) 0 ∷ drop (n + 1 + 1) bs = drop_more bs (n + 1) 0 (omega arith) in
    let z : drop (n + 1 + 1) bs ≡ [] = drop_all (n + 1 + 1) bs (omega arith) in
    let i : n + 1 ≡ length bs - 1 = omega arith in
    let l : get_or bs (n + 1) 0 ≡ get_or bs (length bs - 1) 0 = ap (λ (k : ℕ). get_or bs k 0) i in
    let d : drop n bs ≡ get_or bs n 0 ∷ get_or bs (length bs - 1) 0 ∷ [] = cc in
    sym (take-append-drop n bs) ∙ ap (λ (t : List ℕ). take n bs ++ t) d

-- the letter that gave an outcome is that outcome's
letter_again : (c o : ℕ) → outcome_for c ≡ Some o → (letter_of o ≡ c) × (o ≤ 2)
letter_again c o e = grind (arith, nat_tests)

-- what was read within its ranges stands for itself
stood : (a o : ℕ) (e : Station) → 1 ≤ a → a ≤ 99 → o ≤ 2 → reported a o 0 ≡ e → (action_of e ≡ a) × (outcome_of e ≡ o)
stood a o e lo hi le s =
    let p : a ≡ e.action = ap (λ (x : Station). x.action) s in
    let q : o ≡ e.outcome = ap (λ (x : Station). x.outcome) s in
    (omega arith, omega arith)

some : (a o : ℕ) (e : Station) → read_event (Some a) (Some o) ≡ Some e → (1 ≤ a) × (reported a o 0 ≡ e)
some a o e h = grind (arith, nat_tests)

parts : (ds : List ℕ) (c : ℕ) (e : Station) (x y : Option ℕ) → numeral 99 ds ≡ x → outcome_for c ≡ y → read_event x y ≡ Some e → label_of e ≡ ds ++ (58 ∷ c ∷ [])
parts ds c e (Some a) (Some o) p q r =
    let s = some a o e r in
    let l = letter_again c o q in
    let w = stood a o e s.0 (numeral_le 99 a ds p) l.1 s.1 in
    let d : decimal (action_of e) ≡ ds = ap decimal w.0 ∙ numeral_exact 99 a ds (omega arith) p in
    let m : letter_of (outcome_of e) ≡ c = ap letter_of w.1 ∙ l.0 in
    cc
parts ds c e (Some a) None p q r = absurd (let z : ◌≡◌ {A = ℕ} 0 1 = cc in omega arith)
parts ds c e None y p q r = absurd (let z : ◌≡◌ {A = ℕ} 0 1 = cc in omega arith)

-- a text that stands for an event ends in a colon and a letter
shaped : (bs : List ℕ) (e : Station) → labelled_by bs ≡ Some e → (2 ≤ length bs) × (get_or bs (length bs - 2) 0 ≡ 58) × (read_event (numeral 99 (take (length bs - 2) bs)) (outcome_for (get_or bs (length bs - 1) 0)) ≡ Some e)
shaped bs e h = grind (arith, nat_tests)

pub returns : goal.returns
returns c = λ bs e h.
    let s = shaped bs e h in
    let f = take (length bs - 2) bs in
    let l = get_or bs (length bs - 1) 0 in
    let p : label_of e ≡ f ++ (58 ∷ l ∷ []) = parts f l e (numeral 99 f) (outcome_for l) refl refl s.2 in
    let q : bs ≡ f ++ (get_or bs (length bs - 2) 0 ∷ l ∷ []) = ends bs s.0 in
    let k = s.1 in
    cc
