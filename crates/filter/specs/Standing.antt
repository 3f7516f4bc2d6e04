-- The law holds of each filter: the proofs that the filters give as their member `fruitless`.
use Rattle.std.specs.Prelude.{◌≡◌, ℕ, Bool, true, false, List, [], ◌∷◌, ◌++◌, length, refl}
use Rattle.std.proofs.Common.{⊎_elim, arith, length-append}
use Rattle.std.proofs.lemmas.Bool.{and_left, and_right, both_ways, leb-true, lt-leb, not_from_true, or_cases, or_left, or_right}
use Rattle.event.specs.declared.order.Order.{Order}
use Rattle.event.specs.Orders.{is_alike}
use Rattle.filter.specs.Alikes.{holds_alike}
use Rattle.filter.specs.Filters.{NoneAfter, all_wants, all_barren, length_wants, length_barren, holds_wants, holds_barren, lacks_wants, lacks_barren, both_wants, both_barren}

-- where no list is barren
none_barren : {K : Type 0} (wants : List K → Bool) → NoneAfter wants (λ list. false)
none_barren wants list event rest h = absurd (both_ways false refl h)

pub all_stands : {K : Type 0} → NoneAfter {K = K} all_wants all_barren
all_stands = none_barren all_wants

-- an extension of a list of b or more events has more than b
pub length_stands : {K : Type 0} (a b : ℕ) → NoneAfter {K = K} (length_wants a b) (length_barren b)
length_stands a b list event rest h =
    and_right _ _ (lt-leb (length (list ++ (event ∷ rest))) b (simp length-append (omega (arith, leb-true _ _ h))))

pub holds_stands : {K : Type 0} (order : K → K → Order) (e : K) → NoneAfter (holds_wants order e) holds_barren
holds_stands order e = none_barren (holds_wants order e)

-- an extension has the events of the list
holds_more : {K : Type 0} (order : K → K → Order) (e : K) (list rest : List K) → holds_alike order e list ≡ true → holds_alike order e (list ++ rest) ≡ true
holds_more order e [] rest h = absurd (both_ways false refl h)
holds_more order e (x ∷ xs) rest h =
    ⊎_elim (or_left (is_alike (order x e)) (holds_alike order e (xs ++ rest)))
    (λ t. or_right (is_alike (order x e)) (holds_alike order e (xs ++ rest)) (holds_more order e xs rest t))
    (or_cases (is_alike (order x e)) (holds_alike order e xs) h)

pub lacks_stands : {K : Type 0} (order : K → K → Order) (e : K) → NoneAfter (lacks_wants order e) (lacks_barren order e)
lacks_stands order e list event rest h = not_from_true _ (holds_more order e list (event ∷ rest) h)

-- the one that calls the list barren does not want the extension
pub both_stands : {K : Type 0} {b b' : List K → Bool} (w w' : List K → Bool) → NoneAfter w b → NoneAfter w' b' → NoneAfter (both_wants w w') (both_barren b b')
both_stands {b = b} {b' = b'} w w' s s' list event rest h =
    ⊎_elim (λ t. and_left _ _ (s list event rest t)) (λ t. and_right _ _ (s' list event rest t)) (or_cases (b list) (b' list) h)
