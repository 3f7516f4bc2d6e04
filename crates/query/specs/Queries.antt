-- The query line: a threshold of one to three digits, a space, a longest length of one or two, a space, and a text.
use Rattle.std.specs.Prelude.{◌≡◌, ℕ, ◌+◌, ◌-◌, ◌≤◌, true, cond, ◌&&◌, List, [], ◌∷◌, ◌++◌, length, take, drop, Some, None, Ok, Err, Option, Result, ◌==◌, nat_le, nat_lt}
use Rattle.event.specs.declared.span.Span.{Span}
use Rattle.event.specs.Numerals.{is_digit, onward, read_from}
use Rattle.event.specs.Spans.{span}
use Rattle.query.specs.declared.line.Query.{Query}
use Rattle.query.specs.declared.line.QueryFault.{QueryFault}
use Rattle.query.specs.declared.line.QueryFault.TheVariants.{Line}

-- how many bytes stand before the first of a value, or all where there is none
abbrev pub before : ℕ → List ℕ → ℕ
before value [] = 0
before value (b ∷ bs) = cond (b == value) 0 (before value bs + 1)

-- the number up to a limit that one to so many digits write
abbrev pub digits_to : ℕ → ℕ → List ℕ → Option ℕ
digits_to count most ds = cond (nat_le 1 (length ds) && nat_le (length ds) count) (read_from most 0 ds) None

-- the query of a threshold and a longest length, if both were read
abbrev pub query_of : Option ℕ → Option ℕ → Span → Option Query
query_of (Some t) (Some l) s = Some (record { threshold = t; longest = l; text = s })
query_of (Some t) None s = None
query_of None l s = None

-- the query in a line
abbrev pub query_in : List ℕ → Option Query
query_in line =
    let first = before 32 line in
    let rest = drop (first + 1) line in
    let second = before 32 rest in
    let start = first + 1 + second + 1 in
    cond (nat_lt first (length line) && nat_lt second (length rest)) (query_of (digits_to 3 999 (take first line)) (digits_to 2 99 (take second rest)) (span start (length line - start))) None

-- the query there is, or else a fault
abbrev pub or_line : Option Query → Result Query QueryFault
or_line (Some q) = Ok q
or_line None = Err Line

-- all digits, and the number that they write
abbrev pub AllDigits : List ℕ → Type 0
AllDigits [] = Unit {0}
AllDigits (d ∷ ds) = (is_digit d ≡ true) × AllDigits ds

abbrev pub value_from : ℕ → List ℕ → ℕ
value_from n [] = n
value_from n (d ∷ ds) = value_from (onward n d) ds

-- some text is a number of one to so many digits
pub record Digits (count n : ℕ) (ds : List ℕ) : Type 0 where
  pub some : 1 ≤ length ds
  pub few : length ds ≤ count
  pub digits : AllDigits ds
  pub value : value_from 0 ds ≡ n

-- a line is written as a query: its two numbers and its text, each behind a space
pub record Asks (line : List ℕ) (q : Query) : Type 0 where
  pub threshold : List ℕ
  pub longest : List ℕ
  pub text : List ℕ
  pub written : line ≡ threshold ++ (32 ∷ (longest ++ (32 ∷ text)))
  pub first : Digits 3 q.threshold threshold
  pub second : Digits 2 q.longest longest
  pub place : q.text ≡ span (length threshold + 1 + length longest + 1) (length text)

-- a line is read as a query exactly if it is written as one
abbrev pub QueryStands : Type 0
QueryStands = (line : List ℕ) (q : Query) → (query_in line ≡ Some q → Asks line q) × (Asks line q → query_in line ≡ Some q)
