-- The lowest number that passes a test, and the wrong offset, turn by turn.
use Rattle.std.proofs.Common.{◌≡◌, ℕ, zero, suc, ◌+◌, ◌-◌, ◌<◌, ◌≤◌, Bool, true, false, cond, not, eqb, List, [], ◌∷◌, map, length, get_or, find, IfSome, Some, None, Option, refl, sym, ap, ◌∙◌, arith}
use Rattle.std.proofs.lemmas.List.FromFn.{length-map-range_with_len, get_or-map-range_with_len}
use Rattle.std.proofs.lemmas.Bool.{cond-true, cond-false, cond_both, ne_eqb}
use Rattle.std.specs.Bool.{then_some}
use Rattle.std.specs.List.{range_with_len}
use Rattle.bundle.specs.Offsets.{lowest, right_offset, offset_before, right_at, wrong_offset}

-- the lowest of the numbers from i to n that passes
abbrev pub lowest_from : (ℕ → Bool) → ℕ → ℕ → Option ℕ
lowest_from test n i = lowest test i (n - i)

lowest_step : (test : ℕ → Bool) (n i : ℕ) → i < n → lowest_from test n i ≡ cond (test i) (Some i) (lowest_from test n (i + 1))
lowest_step test n i h = ap (lowest test i) (let e : n - i ≡ suc (n - (i + 1)) = omega arith in e)

-- the start, a turn that goes on, one that stops, and the end
pub lowest_first : (test : ℕ → Bool) (n : ℕ) → lowest_from test n 0 ≡ lowest test 0 n
lowest_first test n = ap (lowest test 0) (let e : n - 0 ≡ n = omega arith in e)

pub lowest_on : (test : ℕ → Bool) (n i : ℕ) → i < n → test i ≡ false → lowest_from test n (i + 1) ≡ lowest_from test n i
lowest_on test n i h e = sym (lowest_step test n i h ∙ cond-false (test i) (Some i) (lowest_from test n (i + 1)) e)

pub lowest_here : (test : ℕ → Bool) (n i : ℕ) → i < n → test i ≡ true → Some i ≡ lowest_from test n i
lowest_here test n i h e = sym (lowest_step test n i h ∙ cond-true (test i) (Some i) (lowest_from test n (i + 1)) e)

pub lowest_all : (test : ℕ → Bool) (n i : ℕ) → n ≤ i → None ≡ lowest_from test n i
lowest_all test n i h = sym (ap (lowest test i) (let e : n - i ≡ 0 = omega arith in e))

-- the first of some numbers that passes is the lowest
pub find_lowest : (test same : ℕ → Bool) → ((k : ℕ) → test k ≡ same k) → (i n : ℕ) → find test (range_with_len i n) ≡ lowest same i n
find_lowest test same h i zero = refl
find_lowest test same h i (suc n) =
    ap (λ (b : Bool). cond b (Some i) (find test (range_with_len (i + 1) n))) (h i) ∙ ap (λ (o : Option ℕ). cond (same i) (Some i) o) (find_lowest test same h (i + 1) n)

-- a lowest is within the numbers that were tried
pub lowest_within : (test : ℕ → Bool) (i n m : ℕ) → i + n ≤ m → IfSome (lowest test i n) (λ k. k < m)
lowest_within test i zero m h = tt
lowest_within test i (suc n) m h =
    cond_both (test i) (Some i) (lowest test (i + 1) n) (λ (o : Option ℕ). IfSome o (λ k. k < m)) (λ t. omega arith) (λ t. lowest_within test (i + 1) n m (omega arith))

-- the wrong offset from i on
abbrev pub wrong_from : ℕ → List ℕ → ℕ → Option ℕ
wrong_from events offsets i = lowest_from (λ k. not (right_at events offsets k)) (length offsets) i

pub wrong_first : (events : ℕ) (offsets : List ℕ) → 0 < length offsets → wrong_from events offsets 0 ≡ wrong_offset events offsets
wrong_first events [] h = absurd (omega arith)
wrong_first events (o ∷ os) h = lowest_first (λ k. not (right_at events (o ∷ os) k)) (length (o ∷ os))

-- a turn, over offsets that a function gives
module _ (events : ℕ) (at : ℕ → ℕ) (count i : ℕ) (before : Option ℕ) (here : ℕ) (end : Option ℕ) (within : i < count) (earlier : before ≡ offset_before (map at (range_with_len 0 count)) i) (is : here ≡ at i) (last : end ≡ then_some (eqb (i + 1) count) events) where
  abbrev offsets : List ℕ
  offsets = map at (range_with_len 0 count)

  count_is : length offsets ≡ count
  count_is = length-map-range_with_len at 0 count

  at_here : here ≡ get_or offsets i 0
  at_here = is ∙ sym (get_or-map-range_with_len at 0 count i i 0 within (omega arith))

  right_here : right_offset before here end ≡ right_at events offsets i
  right_here =
      let l : end ≡ then_some (eqb (i + 1) (length offsets)) events = last ∙ ap (λ (n : ℕ). then_some (eqb (i + 1) n) events) (sym count_is) in
      let h = at_here in
      cc

  pub wrong_on : true ≡ right_offset before here end → wrong_from events offsets (i + 1) ≡ wrong_from events offsets i
  wrong_on e =
      lowest_on (λ k. not (right_at events offsets k)) (length offsets) i (omega (arith, count_is)) (ap not (sym right_here ∙ sym e))

  pub wrong_here : false ≡ right_offset before here end → Some i ≡ wrong_from events offsets i
  wrong_here e =
      lowest_here (λ k. not (right_at events offsets k)) (length offsets) i (omega (arith, count_is)) (ap not (sym right_here ∙ sym e))

  -- it stands before the next
  pub before_next : Some here ≡ offset_before offsets (i + 1)
  before_next =
      let j : i + 1 - 1 ≡ i = omega arith in
      let p : get_or offsets (i + 1 - 1) 0 ≡ here = ap (λ (k : ℕ). get_or offsets k 0) j ∙ sym at_here in
      sym (cond-false (eqb (i + 1) 0) None (Some (get_or offsets (i + 1 - 1) 0)) (ne_eqb (i + 1) 0 (λ z. omega arith)) ∙ ap Some p)
