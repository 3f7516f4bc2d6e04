-- Over a strictly rising lexicon the order of lists of places is the order of their events.
use Rattle.std.proofs.Common.{◌≡◌, ℕ, ◌<◌, ◌⊎◌, ◌↔◌, List, [], ◌∷◌, ◌++◌, length, get_or, take, sym, ap, ◌∙◌, subst, inl, inr, arith}
use Rattle.std.proofs.lemmas.List.{drop_more}
use Rattle.event.specs.declared.order.Order.{Order}
use Rattle.event.specs.declared.order.Order.TheVariants.{Before, Alike, After}
use Rattle.event.specs.Orders.{flipped}
use Rattle.matching.specs.Lexicons.{Rising}
use Rattle.matching.specs.Picks.{picked}
use Rattle.law.specs.Order.{Precedes, AllBelow, EventsPrecede, IsOrderOfEvents}
use Rattle.law.proofs.Order.{numbers_compared}

-- two numbers and their events stand alike
abbrev Agreeing : Order → ℕ → ℕ → Type 0
Agreeing o x y = ((x < y) × (o ≡ Before)) ⊎ (((x ≡ y) × (o ≡ Alike)) ⊎ ((y < x) × (o ≡ After)))

-- where the first of two lists agree and the rest does, the whole does
one_more : {P Q : Type 0} (o : Order) (x y : ℕ) → Agreeing o x y → P ↔ Q → ((x < y) ⊎ ((x ≡ y) × P)) ↔ ((o ≡ Before) ⊎ ((o ≡ Alike) × Q))
one_more {P} {Q} o x y a rest = (there a, back a)
  where
    there : Agreeing o x y → (x < y) ⊎ ((x ≡ y) × P) → (o ≡ Before) ⊎ ((o ≡ Alike) × Q)
    there (inl k) b = inl k.1
    there (inr (inl k)) (inl l) = absurd (let e = k.0 in omega arith)
    there (inr (inl k)) (inr b) = inr (k.1, rest.0 b.1)
    there (inr (inr k)) (inl l) = absurd (let g = k.0 in omega arith)
    there (inr (inr k)) (inr b) = absurd (let g = k.0 in let e = b.0 in omega arith)

    back : Agreeing o x y → (o ≡ Before) ⊎ ((o ≡ Alike) × Q) → (x < y) ⊎ ((x ≡ y) × P)
    back (inl k) b = inl k.0
    back (inr (inl k)) (inl f) = absurd (let e = k.1 in let z : ◌≡◌ {A = ℕ} 0 1 = cc in omega arith)
    back (inr (inl k)) (inr b) = inr (k.0, rest.1 b.1)
    back (inr (inr k)) (inl f) = absurd (let e = k.1 in let z : ◌≡◌ {A = ℕ} 0 1 = cc in omega arith)
    back (inr (inr k)) (inr b) = absurd (let e = k.1 in let f = b.0 in let z : ◌≡◌ {A = ℕ} 0 1 = cc in omega arith)

some_of : {K : Type 0} (xs : List K) (i : ℕ) → i < length xs → K
some_of [] i h = absurd (omega arith)
some_of (x ∷ xs) i h = x

module _ {K : Type 0} (order : K → K → Order) (itself : (x : K) → order x x ≡ Alike) (exchanged : (x y : K) → order y x ≡ flipped (order x y)) (lexicon : List K) (rising : Rising order lexicon) where
  agreeing : (d : K) (x y : ℕ) → x < length lexicon → y < length lexicon → Agreeing (order (get_or lexicon x d) (get_or lexicon y d)) x y
  agreeing d x y h k = go (numbers_compared x y)
    where
      go : (x < y) ⊎ ((x ≡ y) ⊎ (y < x)) → Agreeing (order (get_or lexicon x d) (get_or lexicon y d)) x y
      go (inl l) = inl (l, rising x y d l k)
      go (inr (inl e)) = inr (inl (e, subst (λ (z : ℕ). order (get_or lexicon x d) (get_or lexicon z d) ≡ Alike) e (itself (get_or lexicon x d))))
      go (inr (inr g)) = inr (inr (g, exchanged (get_or lexicon y d) (get_or lexicon x d) ∙ ap flipped (rising y x d g h)))

  picked_first : (d : K) (x : ℕ) (p : List ℕ) → x < length lexicon → get_or lexicon x d ∷ picked lexicon p ≡ picked lexicon (x ∷ p)
  picked_first d x p h = sym (ap (λ (l : List K). take 1 l ++ picked lexicon p) (drop_more lexicon x d h))

  by_events : (p q : List ℕ) → AllBelow (length lexicon) p → AllBelow (length lexicon) q → Precedes p q ↔ EventsPrecede order (picked lexicon p) (picked lexicon q)
  by_events [] [] a b = (λ x. x, λ x. x)
  by_events (x ∷ p) [] a b = (λ x. x, λ x. x)
  by_events [] (y ∷ q) a b =
      subst (λ (l : List K). Precedes [] (y ∷ q) ↔ EventsPrecede order [] l) (picked_first (some_of lexicon y b.0) y q b.0)
      (λ _. tt, λ _. tt)
  by_events (x ∷ p) (y ∷ q) a b =
      let d = some_of lexicon x a.0 in
      subst (λ (l : List K). Precedes (x ∷ p) (y ∷ q) ↔ EventsPrecede order l (picked lexicon (y ∷ q))) (picked_first d x p a.0)
      (subst (λ (l : List K). Precedes (x ∷ p) (y ∷ q) ↔ EventsPrecede order (get_or lexicon x d ∷ picked lexicon p) l) (picked_first d y q b.0)
      (one_more (order (get_or lexicon x d) (get_or lexicon y d)) x y (agreeing d x y a.0 b.0) (by_events p q a.1 b.1)))

pub is_order_of_events : {K : Type 0} (order : K → K → Order) → ((x : K) → order x x ≡ Alike) → ((x y : K) → order y x ≡ flipped (order x y)) → IsOrderOfEvents order
is_order_of_events order itself exchanged lexicon rising = by_events order itself exchanged lexicon rising
