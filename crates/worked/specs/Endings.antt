-- The expression of the worked cases: the lists that end with 30.
use Rattle.std.specs.Prelude.{List, [], ◌∷◌, ℕ}
use Rattle.event.specs.declared.scanner.Scanner.{Scanner}
use Rattle.event.specs.Scanners as scanners
use Rattle.law.specs.Openings.{Opening}
use Rattle.law.specs.Transcripts.{Call, Next}
use Rattle.regular.specs.declared.label.Label.{Label}
use Rattle.regular.specs.declared.label.Label.TheVariants.{Any, Event}
use Rattle.regular.specs.Accepts.{accepts}
use Rattle.regular.specs.Automata.{fits}
use Rattle.regular.specs.Labels.{suits}
use Rattle.regular.specs.Regex.{Regex, one, seq, star}

-- its text, `.*30`
abbrev pub ending : List ℕ
ending = 46 ∷ 42 ∷ 51 ∷ 48 ∷ []

-- what stands at its leaves: a dot, and the label 30
abbrev pub ending_leaves : List (Label Scanner)
ending_leaves = Any ∷ Event (scanners.coded 30) ∷ []

-- the expression, with the numbers of its leaves: any number of the first, then the second
abbrev pub ending_tree : Regex ℕ
ending_tree = seq (star (one 0)) (one 1)

-- a next that wants its language, with a row of 16 places
abbrev pub next_ending : Call (Opening Scanner) Scanner
next_ending = Next (accepts (fits (suits scanners.order_of) ending_leaves) ending_tree) 16
