use Rattle.std.specs.Prelude.{◌≡◌, ℕ, min, max, Bool, true, false, cond, Some, None, Option, nat_lt}
use Rattle.event.specs.declared.order.Order.{Order}
use Rattle.event.specs.declared.order.Order.TheVariants.{Before, Alike, After}
use Rattle.std.specs.declared.cmp.Ordering.{Ordering}
use Rattle.std.specs.declared.cmp.Ordering.TheVariants.{Less, Equal, Greater}

-- the number from low to high that is nearest to n
abbrev pub nearest : ℕ → ℕ → ℕ → ℕ
nearest low high n = max (min n high) low

-- the library's answers, in the words of events
abbrev pub order_from : Ordering → Order
order_from Less = Before
order_from Equal = Alike
order_from Greater = After

-- two numbers compared
abbrev pub compared : ℕ → ℕ → Order
compared a b = cond (nat_lt a b) Before (cond (nat_lt b a) After Alike)

-- the first answer, or where it is alike the second
abbrev pub first_then : Order → Order → Order
first_then Before o = Before
first_then Alike o = o
first_then After o = After

-- before and after exchanged
abbrev pub flipped : Order → Order
flipped Before = After
flipped Alike = Alike
flipped After = Before

-- whether the first event is before the second
abbrev pub is_before : Order → Bool
is_before Before = true
is_before Alike = false
is_before After = false

-- whether the two events are alike
abbrev pub is_alike : Order → Bool
is_alike Before = false
is_alike Alike = true
is_alike After = false

-- whether the first event is not after the second
abbrev pub not_after : Order → Bool
not_after Before = true
not_after Alike = true
not_after After = false

-- there is an event, and it is alike to x
abbrev pub AlikeSome : {K : Type 0} → (K → K → Order) → K → Option K → Type 0
AlikeSome order x (Some y) = order x y ≡ Alike
AlikeSome order x None = ⊥
