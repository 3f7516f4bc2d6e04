-- Offsets with no wrong one are lawful, and lawful ones have no wrong one.
use Rattle.std.proofs.Common.{◌≡◌, ℕ, zero, suc, ◌+◌, ◌-◌, ◌<◌, ◌≤◌, Bool, true, false, cond, not, List, [], ◌∷◌, eqb, length, get_or, Some, None, Option, sym, refl, ap, ◌∙◌, ⊎_elim, arith}
use Rattle.std.proofs.lemmas.Bool.{cases_eq, and_parts, and_from, eqb-true, eq-eqb, ne_eqb, leb-true, le-leb, not-false, not_from_true, cond-false}
use Rattle.std.specs.Bool.{then_some}
use Rattle.bundle.specs.Offsets.{lowest, begins, ends, right_at, wrong_offset, LawfulOffsets}

-- a first number that is not there did not pass
first_none : (b : Bool) (i : ℕ) (o : Option ℕ) → cond b (Some i) o ≡ None → (b ≡ false) × (o ≡ None)
first_none true i o e = absurd (let z : ◌≡◌ {A = ℕ} 0 1 = cc in omega arith)
first_none false i o e = (refl, e)

-- where no number is the lowest that passes, none passes
pub lowest_none : (test : ℕ → Bool) (i n : ℕ) → lowest test i n ≡ None → (k : ℕ) → i ≤ k → k < i + n → test k ≡ false
lowest_none test i zero e k a b = absurd (omega arith)
lowest_none test i (suc n) e k a b =
    let f = first_none (test i) i (lowest test (i + 1) n) e in
    ⊎_elim (λ (p : k ≡ i). ap test p ∙ f.0) (λ (p : k ≡ i → ⊥). lowest_none test (i + 1) n f.1 k (omega arith) (omega arith)) (cases_eq k i)

-- where none passes, none is the lowest
pub none_lowest : (test : ℕ → Bool) (i n : ℕ) → ((k : ℕ) → i ≤ k → k < i + n → test k ≡ false) → lowest test i n ≡ None
none_lowest test i zero h = refl
none_lowest test i (suc n) h =
    let a : test i ≡ false = h i (omega arith) (omega arith) in
    let b : lowest test (i + 1) n ≡ None = none_lowest test (i + 1) n (λ k p q. h k (omega arith) (omega arith)) in
    cond-false (test i) (Some i) (lowest test (i + 1) n) a ∙ b

-- what an offset that may stand says, and that what says so may stand
module _ (events : ℕ) (offsets : List ℕ) (i : ℕ) where
  abbrev here : ℕ
  here = get_or offsets i 0

  abbrev before : ℕ
  before = get_or offsets (i - 1) 0

  right_says : right_at events offsets i ≡ true → (i ≡ 0 → here ≡ 0) × (0 < i → before ≤ here) × (i + 1 ≡ length offsets → here ≡ events)
  right_says e =
      let p = and_parts (begins (cond (eqb i 0) None (Some before)) here) (ends here (then_some (eqb (i + 1) (length offsets)) events)) e in (
        λ h. eqb-true here 0 (sym (ap (λ (b : Bool). begins (cond b None (Some before)) here) (eq-eqb i 0 h)) ∙ p.0),
        λ h. leb-true before here (sym (ap (λ (b : Bool). begins (cond b None (Some before)) here) (ne_eqb i 0 (λ z. omega arith))) ∙ p.0),
        λ h. eqb-true here events (sym (ap (λ (b : Bool). ends here (then_some b events)) (eq-eqb (i + 1) (length offsets) h)) ∙ p.1),
      )

  right_from : (i ≡ 0 → here ≡ 0) → (0 < i → before ≤ here) → (i + 1 ≡ length offsets → here ≡ events) → right_at events offsets i ≡ true
  right_from a b c =
      and_from (begins (cond (eqb i 0) None (Some before)) here) (ends here (then_some (eqb (i + 1) (length offsets)) events))
      (⊎_elim
      (λ (z : i ≡ 0). ap (λ (t : Bool). begins (cond t None (Some before)) here) (eq-eqb i 0 z) ∙ eq-eqb here 0 (a z))
      (λ (z : i ≡ 0 → ⊥). ap (λ (t : Bool). begins (cond t None (Some before)) here) (ne_eqb i 0 z) ∙ le-leb before here (b (omega arith)))
      (cases_eq i 0))
      (⊎_elim
      (λ (z : i + 1 ≡ length offsets). ap (λ (t : Bool). ends here (then_some t events)) (eq-eqb (i + 1) (length offsets) z) ∙ eq-eqb here events (c z))
      (λ (z : i + 1 ≡ length offsets → ⊥). ap (λ (t : Bool). ends here (then_some t events)) (ne_eqb (i + 1) (length offsets) z))
      (cases_eq (i + 1) (length offsets)))

-- offsets with no wrong one are lawful
pub lawful_from : (offsets : List ℕ) (events : ℕ) → wrong_offset events offsets ≡ None → LawfulOffsets offsets events
lawful_from [] events e = absurd (let z : ◌≡◌ {A = ℕ} 0 1 = cc in omega arith)
lawful_from (o ∷ os) events e =
    let offsets = o ∷ os in
    let says = λ (k : ℕ) (h : k < length offsets). right_says events offsets k (not-false (right_at events offsets k) (lowest_none (λ i. not (right_at events offsets i)) 0 (length offsets) e k (omega arith) (omega arith))) in
    record {
      first = (says 0 (omega arith)).0 refl;
      rises = λ i h.
          let r : get_or offsets (i + 1 - 1) 0 ≤ get_or offsets (i + 1) 0 = (says (i + 1) h).1 (omega arith) in
          let s : get_or offsets (i + 1 - 1) 0 ≡ get_or offsets i 0 = ap (λ (k : ℕ). get_or offsets k 0) (omega arith) in
          omega arith;
      last = (says (length offsets - 1) (omega arith)).2 (omega arith);
    }

-- lawful offsets have no wrong one
pub lawful_stands : (offsets : List ℕ) (events : ℕ) → LawfulOffsets offsets events → wrong_offset events offsets ≡ None
lawful_stands [] events l = absurd (let z = l.first in omega arith)
lawful_stands (o ∷ os) events l =
    let offsets = o ∷ os in
    let at = λ (i j : ℕ) (e : i ≡ j). ap (λ (k : ℕ). get_or offsets k 0) e in
    let first : (k : ℕ) → k ≡ 0 → get_or offsets k 0 ≡ 0 = λ k h. at k 0 h ∙ l.first in
    let rises : (k : ℕ) → k < length offsets → 0 < k → get_or offsets (k - 1) 0 ≤ get_or offsets k 0 =
    λ k q h.
    let r : get_or offsets (k - 1) 0 ≤ get_or offsets (k - 1 + 1) 0 = l.rises (k - 1) (omega arith) in
    omega (arith, at (k - 1 + 1) k (omega arith)) in
    let last : (k : ℕ) → k + 1 ≡ length offsets → get_or offsets k 0 ≡ events = λ k h. at k (length offsets - 1) (omega arith) ∙ l.last in
    none_lowest (λ i. not (right_at events offsets i)) 0 (length offsets) (λ k p q. not_from_true (right_at events offsets k) (right_from events offsets k (first k) (rises k (omega arith)) (last k)))
