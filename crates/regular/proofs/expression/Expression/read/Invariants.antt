use Rattle.std.proofs.Common.{take}
use Rattle.regular.specs.Expressions.{HasRead}
use Rattle.regular.proofs.expression.Expression.read.Given as goal

abbrev pub invariant-loop-event : goal.invariant-loop-event
invariant-loop-event g l = HasRead g.K.Kind.order l.self (take l.event-index l.list) l.reading
