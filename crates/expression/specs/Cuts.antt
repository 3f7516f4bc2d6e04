-- How a text is cut into marks.
use Rattle.std.specs.Prelude.{ℕ, ◌+◌, ◌-◌, Bool, false, cond, ◌&&◌, ◌||◌, List, [], ◌∷◌, ◌++◌, Some, None, Option, ◌==◌, nat_le}
use Rattle.std.specs.Option.{option_to_list}
use Rattle.event.specs.declared.span.Span.{Span}
use Rattle.event.specs.Numerals.{is_digit}
use Rattle.event.specs.Spans.{span}

-- whether a byte goes on with a label: a digit, a colon or a small letter
abbrev pub goes_on : ℕ → Bool
goes_on b = is_digit b || (b == 58 || (nat_le 97 b && nat_le b 122))

-- whether a label that is open, from its first place on, goes on with a byte
abbrev pub stays_in : Option ℕ → ℕ → Bool
stays_in (Some start) b = goes_on b
stays_in None b = false

-- the label that is open behind a byte: a digit starts one
abbrev pub next_begun : Option ℕ → ℕ → ℕ → Option ℕ
next_begun begun at b = cond (stays_in begun b) begun (cond (is_digit b) (Some at) None)

-- the label that ends at a place, if one is open
abbrev pub lone : Option ℕ → ℕ → Option Span
lone (Some start) at = Some (span start (at - start))
lone None at = None

-- the label that ends before a byte
abbrev pub ended : Option ℕ → ℕ → ℕ → Option Span
ended begun at b = cond (goes_on b) None (lone begun at)

-- the mark that a byte is alone: neither part of a label nor a space
abbrev pub alone : Option ℕ → ℕ → ℕ → Option Span
alone begun at b = cond (stays_in begun b || (is_digit b || b == 32)) None (Some (span at 1))

-- the marks of a text from a place on, where a label may be open
abbrev pub spans_from : ℕ → Option ℕ → List ℕ → List Span
spans_from at begun [] = option_to_list (lone begun at)
spans_from at begun (b ∷ text) = option_to_list (ended begun at b) ++ (option_to_list (alone begun at b) ++ spans_from (at + 1) (next_begun begun at b) text)

-- the marks of a text, by their places
abbrev pub spans_in : List ℕ → List Span
spans_in text = spans_from 0 None text
