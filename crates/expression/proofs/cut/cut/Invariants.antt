use Rattle.std.proofs.Common.{◌≡◌, ◌++◌, drop, vec_items}
use Rattle.expression.specs.Cuts.{spans_from, spans_in}
use Rattle.expression.proofs.cut.cut.Given as goal

-- the marks so far, and those of the rest
abbrev pub invariant-loop-at : goal.invariant-loop-at
invariant-loop-at l = vec_items l.spans ++ spans_from l.at l.open.begun (drop l.at l.text) ≡ spans_in l.text
