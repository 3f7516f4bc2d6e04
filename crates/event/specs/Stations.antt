use Rattle.std.specs.Prelude.{ℕ, ◌+◌, ◌-◌, ◌*◌, cond, ◌&&◌, List, [], ◌∷◌, ◌++◌, length, take, Some, None, decimal, Option, ◌==◌, nat_le, slice_index}
use Rattle.event.specs.declared.order.Order.{Order}
use Rattle.event.specs.declared.station.Station.{Station}
use Rattle.event.specs.Numerals.{numeral}
use Rattle.event.specs.Orders.{nearest, compared, first_then}

-- the action that a record stands for: the nearest from 1 to 99
abbrev pub action_of : Station → ℕ
action_of s = nearest 1 99 s.action

-- the outcome that a record stands for: the nearest from 0 to 2
abbrev pub outcome_of : Station → ℕ
outcome_of s = nearest 0 2 s.outcome

-- station events are ordered by action, then by outcome; the station is not compared
abbrev pub order_of : Station → Station → Order
order_of x y = first_then (compared (action_of x) (action_of y)) (compared (outcome_of x) (outcome_of y))

-- the event with an action, an outcome and a station
abbrev pub reported : ℕ → ℕ → ℕ → Station
reported a o s = record { action = a; outcome = o; station = s }

-- the event that bytes stand for: the action, the outcome, and the station with its high byte first
abbrev pub stands_for : List ℕ → Option Station
stands_for [] = None
stands_for (a ∷ []) = None
stands_for (a ∷ o ∷ []) = None
stands_for (a ∷ o ∷ h ∷ []) = None
stands_for (a ∷ o ∷ h ∷ l ∷ []) = cond (nat_le 1 a && (nat_le a 99 && nat_le o 2)) (Some (reported a o (h * 256 + l))) None
stands_for (a ∷ o ∷ h ∷ l ∷ x ∷ xs) = None

-- an outcome's letter: d for done, r for refused, t for timed out
abbrev pub letter_of : ℕ → ℕ
letter_of o = cond (o == 0) 100 (cond (o == 1) 114 116)

-- the outcome that a letter stands for
abbrev pub outcome_for : ℕ → Option ℕ
outcome_for c = cond (c == 100) (Some 0) (cond (c == 114) (Some 1) (cond (c == 116) (Some 2) None))

-- an event's label: the action in decimal, a colon, and the outcome's letter
abbrev pub label_of : Station → List ℕ
label_of s = decimal (action_of s) ++ (58 ∷ letter_of (outcome_of s) ∷ [])

-- the event with an action from 1 on and an outcome that were read, if both were; its station is 0
abbrev pub read_event : Option ℕ → Option ℕ → Option Station
read_event (Some a) (Some o) = cond (nat_le 1 a) (Some (reported a o 0)) None
read_event (Some a) None = None
read_event None o = None

-- the event that a label stands for: the action is what stands before the last two bytes, a colon and the letter
abbrev pub labelled_by : List ℕ → Option Station
labelled_by bs =
    cond (nat_le 2 (length bs) && slice_index bs (length bs - 2) == 58) (read_event (numeral 99 (take (length bs - 2) bs)) (outcome_for (slice_index bs (length bs - 1)))) None
