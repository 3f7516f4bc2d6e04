-- A lexicon that rises strictly: between neighbours, and between any two of its events.
use Rattle.std.proofs.Common.{◌≡◌, ℕ, zero, suc, ◌+◌, ◌<◌, Bool, true, false, List, [], ◌∷◌, length, get_or, sym, refl, ap, ◌∙◌, arith}
use Rattle.std.proofs.ByRecursion.{All-get_or, All-from_get_or, All-weaker}
use Rattle.std.proofs.lemmas.Bool.{and_parts, and_from, and_left, and_right}
use Rattle.std.specs.List.{AllByRecursion as All, IsAllAdjacentAnswer}
use Rattle.event.specs.declared.order.Order.{Order}
use Rattle.event.specs.declared.order.Order.TheVariants.{Before, Alike, After}
use Rattle.event.specs.Orders.{is_before}
use Rattle.matching.specs.Lexicons.{rises_strictly, Rising, LexiconStands}
use Rattle.matching.proofs.Ordered.{Ordered, before_then}
use Rattle.event.specs.Orders.{not_after}

pub before_from : (o : Order) → is_before o ≡ true → o ≡ Before
before_from Before e = refl
before_from Alike e = absurd (let z : ◌≡◌ {A = ℕ} 0 1 = cc in omega arith)
before_from After e = absurd (let z : ◌≡◌ {A = ℕ} 0 1 = cc in omega arith)

pub not_before : (o : Order) → (o ≡ Before → ⊥) → is_before o ≡ false
not_before Before other = absurd (other refl)
not_before Alike other = refl
not_before After other = refl

-- the first is before all others, and so on
abbrev pub Climbs : {K : Type 0} → (K → K → Order) → List K → Type 0
Climbs order [] = Unit {0}
Climbs order (x ∷ xs) = All (λ y. order x y ≡ Before) xs × Climbs order xs

module _ {K : Type 0} (order : K → K → Order) where
  pub rising_from : (xs : List K) → Climbs order xs → Rising order xs
  rising_from [] c i j d a b = absurd (omega arith)
  rising_from (x ∷ xs) c zero zero d a b = absurd (omega arith)
  rising_from (x ∷ xs) c zero (suc j) d a b = All-get_or (λ y. order x y ≡ Before) xs j d (omega arith) c.0
  rising_from (x ∷ xs) c (suc i) zero d a b = absurd (omega arith)
  rising_from (x ∷ xs) c (suc i) (suc j) d a b = rising_from xs c.1 i j d (omega arith) (omega arith)

  pub climbs_of : (xs : List K) → Rising order xs → Climbs order xs
  climbs_of [] r = tt
  climbs_of (x ∷ xs) r =
      (All-from_get_or (λ y. order x y ≡ Before) xs x (λ i h. r 0 (suc i) x (omega arith) (omega arith)), climbs_of xs (λ i j d a b. r (suc i) (suc j) d (omega arith) (omega arith)))

  strictly_from : (xs : List K) → Rising order xs → rises_strictly order xs ≡ true
  strictly_from [] r = refl
  strictly_from (x ∷ []) r = refl
  strictly_from (x ∷ y ∷ more) r =
      and_from (is_before (order x y)) (rises_strictly order (y ∷ more)) (ap is_before (r 0 1 x (omega arith) (omega arith))) (strictly_from (y ∷ more) (λ i j d a b. r (suc i) (suc j) d (omega arith) (omega arith)))

  module _ (laws : Ordered order) where
    climbs_from : (xs : List K) → rises_strictly order xs ≡ true → Climbs order xs
    climbs_from [] h = tt
    climbs_from (x ∷ []) h = (tt, tt)
    climbs_from (x ∷ y ∷ more) h =
        let p = and_parts (is_before (order x y)) (rises_strictly order (y ∷ more)) h in
        let first = before_from (order x y) p.0 in
        let c = climbs_from (y ∷ more) p.1 in
        ((first, All-weaker (λ z. order y z ≡ Before) (λ z. order x z ≡ Before) (λ z e. before_then order laws x y z first (ap not_after e)) more c.0), c)

    pub lexicon_stands : LexiconStands order
    lexicon_stands lexicon = (λ h. rising_from lexicon (climbs_from lexicon h), strictly_from lexicon)

  -- two neighbours behind the first
  behind : (x : K) (xs : List K) (k : ℕ) (d : K) → is_before (order (get_or xs k d) (get_or (x ∷ xs) (suc k + 1) d)) ≡ is_before (order (get_or xs k d) (get_or xs (k + 1) d))
  behind x xs k d =
      let n : suc k + 1 ≡ suc (k + 1) = omega arith in
      ap (λ m. is_before (order (get_or xs k d) (get_or (x ∷ xs) m d))) n

  -- an answer on all neighbours
  all_before : (xs : List K) → ((k : ℕ) (d : K) → k + 1 < length xs → true ≡ is_before (order (get_or xs k d) (get_or xs (k + 1) d))) → true ≡ rises_strictly order xs
  all_before [] h = refl
  all_before (x ∷ []) h = refl
  all_before (x ∷ y ∷ more) h =
      sym (and_from (is_before (order x y)) (rises_strictly order (y ∷ more)) (sym (h 0 x (omega arith))) (sym (all_before (y ∷ more) (λ k d b. h (suc k) d (omega arith) ∙ behind x (y ∷ more) k d))))

  one_not : (xs : List K) (k : ℕ) → k + 1 < length xs → ((d : K) → false ≡ is_before (order (get_or xs k d) (get_or xs (k + 1) d))) → false ≡ rises_strictly order xs
  one_not [] k b h = absurd (omega arith)
  one_not (x ∷ []) k b h = absurd (omega arith)
  one_not (x ∷ y ∷ more) zero b h = sym (and_left (is_before (order x y)) (rises_strictly order (y ∷ more)) (sym (h x)))
  one_not (x ∷ y ∷ more) (suc k) b h =
      sym (and_right (is_before (order x y)) (rises_strictly order (y ∷ more)) (sym (one_not (y ∷ more) k (omega arith) (λ d. h d ∙ behind x (y ∷ more) k d))))

  pub rises_answer : (lexicon : List K) (answer : Bool) → IsAllAdjacentAnswer (λ x y b. b ≡ is_before (order x y)) lexicon answer → answer ≡ rises_strictly order lexicon
  rises_answer lexicon true all = all_before lexicon (λ k d b. all k d b)
  rises_answer lexicon false some = one_not lexicon some.0 some.1 some.2
