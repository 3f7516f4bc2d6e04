-- What each filter wants, and which lists it calls barren.
use Rattle.std.specs.Prelude.{◌≡◌, ℕ, Bool, true, false, cond, not, ◌&&◌, ◌||◌, List, ◌∷◌, ◌++◌, length, Ok, Err, Result, nat_le}
use Rattle.event.specs.declared.order.Order.{Order}
use Rattle.event.specs.declared.refusal.Refusal.{Refusal}
use Rattle.event.specs.declared.refusal.Refusal.TheVariants.{Length}
use Rattle.filter.specs.Alikes.{holds_alike}

-- no extension of a barren list is wanted: none that goes on with an event and a rest
abbrev pub NoneAfter : {K : Type 0} → (wants barren : List K → Bool) → Type 0
NoneAfter {K} wants barren =
    (list : List K) (event : K) (rest : List K) → barren list ≡ true → wants (list ++ (event ∷ rest)) ≡ false

-- the law of filters: so it is for every filter of a type
abbrev pub BarrenStands : {F K : Type 0} → (wants barren : F → List K → Bool) → Type 0
BarrenStands {F} wants barren = (filter : F) → NoneAfter (wants filter) (barren filter)

-- all: every list is wanted
abbrev pub all_wants : {K : Type 0} → List K → Bool
all_wants list = true

-- all: no list is barren
abbrev pub all_barren : {K : Type 0} → List K → Bool
all_barren list = false

-- length: its limits a and b, with 1 ≤ a ≤ b ≤ 16, or LENGTH
abbrev pub limits : ℕ → ℕ → Result (ℕ × ℕ) Refusal
limits a b = cond (nat_le 1 a && (nat_le a b && nat_le b 16)) (Ok (a, b)) (Err Length)

-- length: lists of a to b events are wanted
abbrev pub length_wants : {K : Type 0} → ℕ → ℕ → List K → Bool
length_wants a b list = nat_le a (length list) && nat_le (length list) b

-- length: lists of b or more events are barren
abbrev pub length_barren : {K : Type 0} → ℕ → List K → Bool
length_barren b list = nat_le b (length list)

-- holds: lists with an event alike to e are wanted
abbrev pub holds_wants : {K : Type 0} → (K → K → Order) → K → List K → Bool
holds_wants order e list = holds_alike order e list

-- holds: no list is barren
abbrev pub holds_barren : {K : Type 0} → List K → Bool
holds_barren list = false

-- lacks: lists with no event alike to e are wanted
abbrev pub lacks_wants : {K : Type 0} → (K → K → Order) → K → List K → Bool
lacks_wants order e list = not (holds_alike order e list)

-- lacks: lists with an event alike to e are barren
abbrev pub lacks_barren : {K : Type 0} → (K → K → Order) → K → List K → Bool
lacks_barren order e list = holds_alike order e list

-- both: lists that the first and the second want are wanted
abbrev pub both_wants : {K : Type 0} → (first second : List K → Bool) → List K → Bool
both_wants first second list = first list && second list

-- both: lists that the first or the second calls barren are barren
abbrev pub both_barren : {K : Type 0} → (first second : List K → Bool) → List K → Bool
both_barren first second list = first list || second list
