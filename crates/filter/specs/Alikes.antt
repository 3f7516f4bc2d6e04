-- Events of a list that are alike to a given one.
use Rattle.std.specs.Prelude.{◌≡◌, ℕ, ◌<◌, Bool, true, ◌↔◌, List, length, slice_index_or}
use Rattle.std.specs.List.{list_any}
use Rattle.event.specs.declared.order.Order.{Order}
use Rattle.event.specs.declared.order.Order.TheVariants.{Alike}
use Rattle.event.specs.Orders.{is_alike}

-- whether a list has an event alike to e
abbrev pub holds_alike : {K : Type 0} → (K → K → Order) → K → List K → Bool
holds_alike order e list = list_any (λ x. is_alike (order x e)) list

-- some place of a list has an event alike to e
abbrev pub SomewhereAlike : {K : Type 0} → (K → K → Order) → K → List K → Type 0
SomewhereAlike order e list = (place : ℕ) × (place < length list) × (order (slice_index_or list place e) e ≡ Alike)

-- a list is said to have an event alike to e exactly if some place has
abbrev pub HoldsExactly : {K : Type 0} → (K → K → Order) → Type 0
HoldsExactly {K} order = (e : K) (list : List K) → (holds_alike order e list ≡ true) ↔ SomewhereAlike order e list
