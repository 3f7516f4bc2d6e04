-- The grammar of expressions, over their marks.
use Rattle.std.specs.Prelude.{◌≡◌, ℕ, ◌+◌, ◌<◌, List, length, slice_index_or}
use Rattle.regular.specs.Regex.{Regex, one, seq, alt, star, plus, opt}
use Rattle.grammar.specs.declared.mark.Mark.{Mark}
use Rattle.grammar.specs.declared.mark.Mark.TheVariants.{Leaf, Open, Close, Bar, Star, Plus, Maybe}

-- the mark m stands at the place i
pub record At (ms : List Mark) (i : ℕ) (m : Mark) : Type 0 where
  pub inside : i < length ms
  pub is : slice_index_or ms i Leaf ≡ m

-- what some marks can make
pub data Sort : Type 0 where
  expression : Sort
  term : Sort
  factor : Sort
  atom : Sort

-- The marks from i up to but not including j make an expression, a term, a factor or an atom. Its leaves have the numbers from k up to but not including l in reading order, and it is the regular expression t over these.
pub data Reads (ms : List Mark) : Sort → ℕ → ℕ → ℕ → ℕ → Regex ℕ → Type 0 where
  lone_term : (i j k l : ℕ) (t : Regex ℕ) → Reads ms term i j k l t → Reads ms expression i j k l t
  bar : (i h j k m l : ℕ) (s t : Regex ℕ) → Reads ms term i h k m s → At ms h Bar → Reads ms expression (h + 1) j m l t → Reads ms expression i j k l (alt s t)
  lone_factor : (i j k l : ℕ) (t : Regex ℕ) → Reads ms factor i j k l t → Reads ms term i j k l t
  next : (i h j k m l : ℕ) (s t : Regex ℕ) → Reads ms factor i h k m s → Reads ms term h j m l t → Reads ms term i j k l (seq s t)
  lone_atom : (i j k l : ℕ) (t : Regex ℕ) → Reads ms atom i j k l t → Reads ms factor i j k l t
  starred : (i j k l : ℕ) (t : Regex ℕ) → Reads ms factor i j k l t → At ms j Star → Reads ms factor i (j + 1) k l (star t)
  plussed : (i j k l : ℕ) (t : Regex ℕ) → Reads ms factor i j k l t → At ms j Plus → Reads ms factor i (j + 1) k l (plus t)
  optional : (i j k l : ℕ) (t : Regex ℕ) → Reads ms factor i j k l t → At ms j Maybe → Reads ms factor i (j + 1) k l (opt t)
  leaf : (i k : ℕ) → At ms i Leaf → Reads ms atom i (i + 1) k (k + 1) (one k)
  bracket : (i j k l : ℕ) (t : Regex ℕ) → At ms i Open → Reads ms expression (i + 1) j k l t → At ms j Close → Reads ms atom i (j + 1) k l t

-- all the marks make one expression
abbrev pub IsExpression : List Mark → Type 0
IsExpression ms = (t : Regex ℕ) × (n : ℕ) × Reads ms expression 0 (length ms) 0 n t
