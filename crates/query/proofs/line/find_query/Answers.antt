use Rattle.std.proofs.Common.{◌≡◌, ℕ, ◌+◌, ◌-◌, ◌<◌, List, length, take, drop, Some, refl, ap, ◌∙◌, arith}
use Rattle.std.proofs.lemmas.Grind.{common_steps}
use Rattle.event.specs.Spans.{span}
use Rattle.query.specs.declared.line.Query.{Query}
use Rattle.query.specs.Queries.{before, digits_to, query_in}
use Rattle.query.proofs.line.find_query.Goals as goal

-- the query of a line that is cut at both its spaces
found : (line front rest longest text : List ℕ) (q : Query)
    → before 32 line < length line → front ≡ take (before 32 line) line → rest ≡ drop (before 32 line + 1) line
    → before 32 rest < length rest → longest ≡ take (before 32 rest) rest → text ≡ drop (before 32 rest + 1) rest
    → Some q.threshold ≡ digits_to 3 999 front → Some q.longest ≡ digits_to 2 99 longest → q.text ≡ span (length line - length text) (length text)
    → Some q ≡ query_in line
found line front rest longest text q a f r b g s t l p = grind (arith, common_steps)

pub returns : goal.returns
returns c =
    let first = c.in_ok-threshold.ensures in
    let second = c.in_ok-longest.ensures in
    let threshold = ap Some c.into.ensures ∙ c.in_ok-read_field.ensures in
    let longest = ap Some c.into-2.ensures ∙ c.in_ok-read_field-2.ensures in
    found c.args.line.now c.in_ok-threshold.threshold.now c.in_ok-threshold.rest.now c.in_ok-longest.longest.now c.in_ok-longest.text.now _ (first.some.0 refl) first.front first.behind (second.some.0 refl) second.front second.behind threshold longest refl
