-- What the laws of a kind's order give.
use Rattle.std.proofs.Common.{◌≡◌, ℕ, true, false, refl, ap, ◌∙◌, arith}
use Rattle.event.specs.declared.order.Order.{Order}
use Rattle.event.specs.declared.order.Order.TheVariants.{Before, Alike, After}
use Rattle.event.specs.Orders.{flipped, not_after}

-- the laws of the order
pub record Ordered {K : Type 0} (order : K → K → Order) : Type 0 where
  pub itself : (x : K) → order x x ≡ Alike
  pub exchanged : (x y : K) → order y x ≡ flipped (order x y)
  pub carried : (x y z : K) → not_after (order x y) ≡ true → not_after (order y z) ≡ true → not_after (order x z) ≡ true

-- before is not after, and not alike
pub before_or_alike : (o : Order) → not_after o ≡ true → (o ≡ Alike → ⊥) → o ≡ Before
before_or_alike Before h n = refl
before_or_alike Alike h n = absurd (n refl)
before_or_alike After h n = absurd (let z : ◌≡◌ {A = ℕ} 0 1 = cc in omega arith)

module _ {K : Type 0} (order : K → K → Order) (laws : Ordered order) where
  pub alike_back : (x y : K) → order x y ≡ Alike → order y x ≡ Alike
  alike_back x y e = laws.exchanged x y ∙ ap flipped e

  pub after_back : (x y : K) → order x y ≡ After → order y x ≡ Before
  after_back x y e = laws.exchanged x y ∙ ap flipped e

  -- what is not after is not behind
  never : (x y : K) → order x y ≡ Before → not_after (order y x) ≡ true → ⊥
  never x y e h =
      let b : not_after (order y x) ≡ false = ap not_after (laws.exchanged x y ∙ ap flipped e) in
      let z : ◌≡◌ {A = ℕ} 0 1 = cc in
      omega arith

  pub before_then : (x y z : K) → order x y ≡ Before → not_after (order y z) ≡ true → order x z ≡ Before
  before_then x y z e h =
      before_or_alike (order x z) (laws.carried x y z (ap not_after e) h) (λ s. never x y e (laws.carried y z x h (ap not_after (alike_back x z s))))

  pub then_before : (x y z : K) → not_after (order x y) ≡ true → order y z ≡ Before → order x z ≡ Before
  then_before x y z h e =
      before_or_alike (order x z) (laws.carried x y z h (ap not_after e)) (λ s. never y z e (laws.carried z x y (ap not_after (alike_back x z s)) h))

  pub alike_alike : (x y z : K) → order x y ≡ Alike → order y z ≡ Alike → order x z ≡ Alike
  alike_alike x y z a b = both (order x z) refl
    where
      there : not_after (order x z) ≡ true
      there = laws.carried x y z (ap not_after a) (ap not_after b)

      back : not_after (order z x) ≡ true
      back = laws.carried z y x (ap not_after (alike_back y z b)) (ap not_after (alike_back x y a))

      both : (o : Order) → order x z ≡ o → o ≡ Alike
      both Before e = absurd (never x z e back)
      both Alike e = refl
      both After e = absurd (let t = ap not_after e in let z : ◌≡◌ {A = ℕ} 0 1 = cc (there) in omega arith)
