-- Which mark is the first that does not fit, or makes an expression too large.
use Rattle.std.specs.Prelude.{ℕ, ◌+◌, ◌-◌, Bool, true, false, cond, not, ◌&&◌, List, [], ◌∷◌, drop, Some, None, Option, ◌==◌, nat_lt}
use Rattle.grammar.specs.declared.mark.Mark.{Mark}
use Rattle.grammar.specs.declared.mark.Mark.TheVariants.{Leaf, Open, Close, Bar, Star, Plus, Maybe, Other}

-- after some marks: how many brackets are open, how many leaves were read, and whether an atom must come next
pub record State : Type 0 where
  pub depth : ℕ
  pub leaves : ℕ
  pub must : Bool

abbrev pub state : ℕ → ℕ → Bool → State
state o l m = record { depth = o; leaves = l; must = m }

-- before the first mark
abbrev pub start : State
start = state 0 0 true

-- whether a mark fits
abbrev pub fits : State → Mark → Bool
fits s Leaf = true
fits s Open = true
fits s Close = not s.must && nat_lt 0 s.depth
fits s Bar = not s.must
fits s Star = not s.must
fits s Plus = not s.must
fits s Maybe = not s.must
fits s Other = false

-- the state behind a mark that fits
abbrev pub behind : State → Mark → State
behind s Leaf = state s.depth (s.leaves + 1) false
behind s Open = state (s.depth + 1) s.leaves true
behind s Close = state (s.depth - 1) s.leaves false
behind s Bar = state s.depth s.leaves true
behind s Star = s
behind s Plus = s
behind s Maybe = s
behind s Other = s

-- whether there is room for a mark: for a leaf if there are fewer than 60, and for a bracket if fewer than 16 are open
abbrev pub room : State → Mark → Bool
room s Leaf = nat_lt s.leaves 60
room s Open = nat_lt s.depth 16
room s Close = true
room s Bar = true
room s Star = true
room s Plus = true
room s Maybe = true
room s Other = true

-- whether the marks may end
abbrev pub done : State → Bool
done s = not s.must && s.depth == 0

-- what a mark does
pub data Step : Type 0 where
  goes : State → Step
  unfit : Step
  too_large : Step

abbrev pub step : State → Mark → Step
step s m = cond (fits s m) (cond (room s m) (goes (behind s m)) too_large) unfit

-- a fault: the number of the mark that does not fit, or that makes the expression too large
pub data Fault : Type 0 where
  wrong : ℕ → Fault
  large : ℕ → Fault

-- the fault after a step at the mark i, where f has the faults behind it
abbrev pub fault_after : Step → ℕ → (State → Option Fault) → Option Fault
fault_after (goes s) i f = f s
fault_after unfit i f = Some (wrong i)
fault_after too_large i f = Some (large i)

-- the fault in some marks, of which the first has the number i, from a state
abbrev pub fault_from : List Mark → ℕ → State → Option Fault
fault_from [] i s = cond (done s) None (Some (wrong i))
fault_from (m ∷ ms) i s = fault_after (step s m) i (fault_from ms (i + 1))

-- the fault in the marks from the place i on
abbrev pub fault_at : List Mark → ℕ → State → Option Fault
fault_at ms i s = fault_from (drop i ms) i s

-- the fault in all the marks
abbrev pub fault_of : List Mark → Option Fault
fault_of ms = fault_from ms 0 start
