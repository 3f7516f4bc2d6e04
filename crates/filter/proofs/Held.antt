-- Whether a list has an event alike to a given one, by places.
use Rattle.std.proofs.Common.{◌≡◌, true, false, List, get_or, ap, refl, ◌∙◌}
use Rattle.std.proofs.lemmas.List.{get_or_default}
use Rattle.std.proofs.lemmas.List.Folds.{Any-from_list_any, list_any_at}
use Rattle.std.proofs.lemmas.Bool.{both_ways}
use Rattle.event.specs.declared.order.Order.{Order}
use Rattle.event.specs.declared.order.Order.TheVariants.{Before, Alike, After}
use Rattle.event.specs.Orders.{is_alike}
use Rattle.filter.specs.Alikes.{holds_alike, SomewhereAlike, HoldsExactly}

-- an answer that is said to be alike
alike_is : (o : Order) → is_alike o ≡ true → o ≡ Alike
alike_is Before h = absurd (both_ways false refl h)
alike_is Alike h = refl
alike_is After h = absurd (both_ways false refl h)

-- where a list is said to have an event alike, some place has
place_of : {K : Type 0} (order : K → K → Order) (e : K) (list : List K) → holds_alike order e list ≡ true → SomewhereAlike order e list
place_of order e list h =
    let some = Any-from_list_any (λ x. is_alike (order x e)) list h in
    let at = get_or_default list some.0 e some.1 some.2 ∙ some.3 in
    (some.0, some.2, alike_is (order (get_or list some.0 e) e) (ap (λ x. is_alike (order x e)) at ∙ some.4))

-- both ways
pub holds_exactly : {K : Type 0} (order : K → K → Order) → HoldsExactly order
holds_exactly order e list =
    (place_of order e list, λ s. list_any_at (λ x. is_alike (order x e)) list s.0 e s.1 (ap is_alike s.2))
