use Rattle.std.specs.Prelude.{ℕ, ◌+◌, ◌*◌, cond, List, [], ◌∷◌, Some, None, decimal, Option, nat_le}
use Rattle.event.specs.declared.order.Order.{Order}
use Rattle.event.specs.declared.scanner.Scanner.{Scanner}
use Rattle.event.specs.Numerals.{numeral}
use Rattle.event.specs.Orders.{nearest, compared}

-- the code that a record stands for: the nearest from 0 to 4095
abbrev pub code_of : Scanner → ℕ
code_of s = nearest 0 4095 s.code

-- scanner events are ordered by code
abbrev pub order_of : Scanner → Scanner → Order
order_of x y = compared (code_of x) (code_of y)

-- the event with a code
abbrev pub coded : ℕ → Scanner
coded n = record { code = n }

-- the event that bytes stand for: two bytes, the high one first, up to 4095
abbrev pub stands_for : List ℕ → Option Scanner
stands_for [] = None
stands_for (h ∷ []) = None
stands_for (h ∷ l ∷ []) = cond (nat_le (h * 256 + l) 4095) (Some (coded (h * 256 + l))) None
stands_for (h ∷ l ∷ x ∷ xs) = None

-- an event's label: the code in decimal, without leading zeros
abbrev pub label_of : Scanner → List ℕ
label_of s = decimal (code_of s)

-- the event with a code that was read, if one was
abbrev pub read_event : Option ℕ → Option Scanner
read_event (Some n) = Some (coded n)
read_event None = None

-- the event that a label stands for
abbrev pub labelled_by : List ℕ → Option Scanner
labelled_by bs = read_event (numeral 4095 bs)
