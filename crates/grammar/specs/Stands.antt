-- What it means that some marks have a fault, or none.
use Rattle.std.specs.Prelude.{◌≡◌, ℕ, ◌+◌, ◌<◌, ◌≤◌, cond, ◌⊎◌, List, [], ◌∷◌, ◌++◌, length, take, Some, None, ◌==◌}
use Rattle.regular.specs.Regex.{Regex}
use Rattle.grammar.specs.declared.mark.Mark.{Mark}
use Rattle.grammar.specs.declared.mark.Mark.TheVariants.{Leaf, Open, Close, Bar, Star, Plus, Maybe, Other}
use Rattle.grammar.specs.Grammar.{At, Sort, expression, Reads, IsExpression}
use Rattle.regular.specs.Automata.{Numbered}
use Rattle.grammar.specs.Faults.{wrong, large, fault_of}

-- a number for each mark, to tell them apart
abbrev pub number_of : Mark → ℕ
number_of Leaf = 0
number_of Open = 1
number_of Close = 2
number_of Bar = 3
number_of Star = 4
number_of Plus = 5
number_of Maybe = 6
number_of Other = 7

-- how often a mark stands in some marks
abbrev pub count : Mark → List Mark → ℕ
count m [] = 0
count m (x ∷ xs) = cond (number_of m == number_of x) 1 0 + count m xs

-- some marks keep the limits: at most 60 leaves, and nowhere more than 16 brackets open
pub record Small (ms : List Mark) : Type 0 where
  pub few : count Leaf ms ≤ 60
  pub shallow : (i : ℕ) → count Open (take i ms) ≤ count Close (take i ms) + 16

-- some marks begin an expression
abbrev pub Begins : List Mark → Type 0
Begins ms = (more : List Mark) × IsExpression (ms ++ more)

-- The marks before the place i keep the limits and begin an expression. With the mark there they begin none; at the end, they are none.
pub record WrongAt (ms : List Mark) (i : ℕ) : Type 0 where
  pub inside : i ≤ length ms
  pub small : Small (take i ms)
  pub before : Begins (take i ms)
  pub behind : i < length ms → Begins (take (i + 1) ms) → ⊥
  pub short : i ≡ length ms → IsExpression ms → ⊥

-- The marks before the place i keep the limits. With the mark there they begin an expression, but it is the sixty-first leaf, or opens the seventeenth of the brackets that stand open.
pub record LargeAt (ms : List Mark) (i : ℕ) : Type 0 where
  pub small : Small (take i ms)
  pub begins : Begins (take (i + 1) ms)
  pub crosses : (At ms i Leaf × (count Leaf (take i ms) ≡ 60)) ⊎ (At ms i Open × (count Open (take i ms) ≡ count Close (take i ms) + 16))

-- Marks have no fault exactly if they are an expression within the limits, and each fault means what it says. What was read has its leaves numbered in reading order, and an expression has as many as there are leaves among its marks.
pub record GrammarStands : Type 0 where
  pub faultless : (ms : List Mark) → fault_of ms ≡ None → IsExpression ms × Small ms
  pub exact : (ms : List Mark) → IsExpression ms → Small ms → fault_of ms ≡ None
  pub wrongs : (ms : List Mark) (i : ℕ) → fault_of ms ≡ Some (wrong i) → WrongAt ms i
  pub larges : (ms : List Mark) (i : ℕ) → fault_of ms ≡ Some (large i) → LargeAt ms i
  pub numbered : (ms : List Mark) (s : Sort) (i j k l : ℕ) (t : Regex ℕ) → Reads ms s i j k l t → Numbered t k l
  pub counted : (ms : List Mark) (n : ℕ) (t : Regex ℕ) → Reads ms expression 0 (length ms) 0 n t → n ≡ count Leaf ms
