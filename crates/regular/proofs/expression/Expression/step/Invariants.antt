use Rattle.std.proofs.Common.{length}
use Rattle.regular.specs.Expressions.{labels_of, meets}
use Rattle.regular.proofs.Looking.{Looked}
use Rattle.regular.proofs.expression.Expression.step.Given as goal

abbrev pub invariant-loop-place : goal.invariant-loop-place
invariant-loop-place g l =
    Looked l.self.automaton (length (labels_of l.self)) (λ p. meets g.K.Kind.order l.self p l.event) l.fn.reading l.place-iterator.left l.ahead l.ended
