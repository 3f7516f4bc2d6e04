-- Where an event stands in a rising lexicon, and the lexicon with it.
use Rattle.std.proofs.Common.{◌≡◌, ℕ, zero, suc, ◌+◌, ◌-◌, ◌*◌, ◌%◌, ◌^◌, ◌<◌, ◌≤◌, Bool, true, false, ◌⊎◌, List, [], ◌∷◌, length, get_or, sym, refl, ap, ◌∙◌, inl, inr, ⊎_elim, zero-mul, one-add, arith}
use mir.Val.{bool_byte}
use Rattle.std.proofs.lemmas.Nat.{one_shl, pow_pos, pow-add}
use Rattle.std.proofs.lemmas.Bool.{cases_eq}
use Rattle.std.specs.List.{insert}
use Rattle.event.specs.declared.order.Order.{Order}
use Rattle.event.specs.declared.order.Order.TheVariants.{Before, Alike, After}
use Rattle.event.specs.Orders.{not_after}
use Rattle.matching.specs.Learning.{by_order, with_event}
use Rattle.event.specs.Orders.{is_before}
use Rattle.matching.specs.Lexicons.{Rising}
use Rattle.matching.proofs.Ordered.{Ordered, before_then}
use Rattle.matching.proofs.Rises.{before_from, not_before}

module _ {K : Type 0} (order : K → K → Order) (event : K) where
  -- one turn of the search: what an answer on the event in the middle tells of those in front of it, and of those from it on
  module _ (laws : Ordered order) (lexicon : List K) (rising : Rising order lexicon) (middle : ℕ) (within : middle < length lexicon) (answer : Bool) (is : (d : K) → answer ≡ is_before (order (get_or lexicon middle d) event)) where
    pub all_front : answer ≡ true → (k : ℕ) (d : K) → k < middle + 1 → order (get_or lexicon k d) event ≡ Before
    all_front e k d h =
        let here = before_from (order (get_or lexicon middle d) event) (sym (is d) ∙ e) in
        ⊎_elim
        (λ (s : k ≡ middle). ap (λ (n : ℕ). order (get_or lexicon n d) event) s ∙ here)
        (λ (s : k ≡ middle → ⊥). before_then order laws (get_or lexicon k d) (get_or lexicon middle d) event (rising k middle d (omega arith) within) (ap not_after here))
        (cases_eq k middle)

    pub none_back : answer ≡ false → (k : ℕ) (d : K) → middle ≤ k → k < length lexicon → is_before (order (get_or lexicon k d) event) ≡ false
    none_back e k d a b =
        let here = sym (is d) ∙ e in
        ⊎_elim
        (λ (s : k ≡ middle). ap (λ (n : ℕ). is_before (order (get_or lexicon n d) event)) s ∙ here)
        (λ (s : k ≡ middle → ⊥).
        not_before (order (get_or lexicon k d) event)
        (λ before.
        let there = ap is_before (before_then order laws (get_or lexicon middle d) (get_or lexicon k d) event (rising middle k d (omega arith) b) (ap not_after before)) in
        let z : ◌≡◌ {A = ℕ} 0 1 = cc in
        omega arith))
        (cases_eq k middle)

  -- the lexicon with the event, by the place where it stands
  pub with_same : (lexicon : List K) (place : ℕ) → place < length lexicon → ((k : ℕ) → k < place → order (get_or lexicon k event) event ≡ Before) → order (get_or lexicon place event) event ≡ Alike → with_event order event lexicon ≡ lexicon
  with_same [] place h front e = absurd (omega arith)
  with_same (x ∷ xs) zero h front e =
      ap (λ (o : Order). by_order o (x ∷ with_event order event xs) (x ∷ xs) (event ∷ x ∷ xs)) e
  with_same (x ∷ xs) (suc place) h front e =
      ap (λ (o : Order). by_order o (x ∷ with_event order event xs) (x ∷ xs) (event ∷ x ∷ xs)) (front 0 (omega arith))
      ∙ ap (λ (l : List K). x ∷ l) (with_same xs place (omega arith) (λ k b. front (suc k) (omega arith)) e)

  pub with_inserted : (lexicon : List K) (place : ℕ) → place ≤ length lexicon → ((k : ℕ) → k < place → order (get_or lexicon k event) event ≡ Before) → (place < length lexicon → order (get_or lexicon place event) event ≡ After) → with_event order event lexicon ≡ insert lexicon place event
  with_inserted [] zero h front e = refl
  with_inserted [] (suc place) h front e = absurd (omega arith)
  with_inserted (x ∷ xs) zero h front e =
      ap (λ (o : Order). by_order o (x ∷ with_event order event xs) (x ∷ xs) (event ∷ x ∷ xs)) (e (omega arith))
  with_inserted (x ∷ xs) (suc place) h front e =
      ap (λ (o : Order). by_order o (x ∷ with_event order event xs) (x ∷ xs) (event ∷ x ∷ xs)) (front 0 (omega arith))
      ∙ ap (λ (l : List K). x ∷ l) (with_inserted xs place (omega arith) (λ k b. front (suc k) (omega arith)) (λ b. e (omega arith)))

-- what is neither before nor alike is after
pub after_else : (o : Order) → is_before o ≡ false → (o ≡ Alike → ⊥) → o ≡ After
after_else Before h n = absurd (let z : ◌≡◌ {A = ℕ} 0 1 = cc in omega arith)
after_else Alike h n = absurd (n refl)
after_else After h n = refl

-- a power of two as it is shifted, and its half
pub step_whole : (n : ℕ) → n < 64 → ((1 * 2 ^ n) % 18446744073709551616 ≡ 2 ^ n) × (1 ≤ 2 ^ n)
step_whole n h = (one_shl n 64 h, pow_pos n)

pub step_half : (n : ℕ) → 0 < n → 2 ^ n ≡ 2 * 2 ^ (n - 1)
step_half zero h = absurd (omega arith)
step_half (suc n) h =
    let a : suc n - 1 ≡ n = omega arith in
    let e = ap (λ (k : ℕ). 2 ^ k) a in
    let q = pow-add 2 1 n in
    let t = ap (λ (k : ℕ). 2 ^ k) (one-add n) in
    omega arith

-- an answer that is shifted: the step, or nothing
pub step_by : (answer : Bool) (r n : ℕ) → r ≡ bool_byte answer → ((answer ≡ true) × ((r * 2 ^ n) % 18446744073709551616 ≡ (1 * 2 ^ n) % 18446744073709551616)) ⊎ ((answer ≡ false) × ((r * 2 ^ n) % 18446744073709551616 ≡ 0))
step_by true r n e = inl (refl, ap (λ (k : ℕ). (k * 2 ^ n) % 18446744073709551616) e)
step_by false r n e =
    inr (refl, ap (λ (k : ℕ). (k * 2 ^ n) % 18446744073709551616) e ∙ ap (λ (k : ℕ). k % 18446744073709551616) (zero-mul (2 ^ n)))
