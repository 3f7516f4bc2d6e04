-- What every kind of event shows of its meaning.
use Rattle.std.specs.Prelude.{◌≡◌, ℕ, true, List, Some, Option}
use Rattle.event.specs.declared.order.Order.{Order}
use Rattle.event.specs.declared.order.Order.TheVariants.{Alike}
use Rattle.event.specs.Orders.{flipped, not_after, AlikeSome}

-- the four laws of a kind, over its order, its events' labels and the events that labels stand for
pub record Lawful {K : Type 0} (order : K → K → Order) (label : K → List ℕ) (labelled : List ℕ → Option K) : Type 0 where
  -- an event is alike to itself
  pub itself : (x : K) → order x x ≡ Alike
  -- exchanging two events exchanges before and after
  pub exchanged : (x y : K) → order y x ≡ flipped (order x y)
  -- "not after" carries over a middle event
  pub carried : (x y z : K) → not_after (order x y) ≡ true → not_after (order y z) ≡ true → not_after (order x z) ≡ true
  -- a written label reads back alike
  pub again : (x : K) → AlikeSome order x (labelled (label x))

-- a text stands for an event only if it is that event's label
abbrev pub Exact : {K : Type 0} → (K → List ℕ) → (List ℕ → Option K) → Type 0
Exact {K} label labelled = (bytes : List ℕ) (event : K) → labelled bytes ≡ Some event → label event ≡ bytes
