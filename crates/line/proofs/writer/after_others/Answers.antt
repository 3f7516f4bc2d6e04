use Rattle.std.proofs.Common.{arith}
use Rattle.std.proofs.lemmas.Grind.{common_steps}
use Rattle.line.specs.Pieces.{spaced}
use Rattle.line.proofs.Joining.{joined_fits}
use Rattle.line.proofs.writer.after_others.Goals as goal

pub returns-in_err-checked_sub : goal.returns-in_err-checked_sub
returns-in_err-checked_sub g c = let fits = joined_fits (spaced g.K.Kind.label) c.args.events.now _ c.event-item.result c.loop-event-test.true c.event-item.is in grind (arith, common_steps)

pub returns-in_err-rest : goal.returns-in_err-rest
returns-in_err-rest g c = let fits = joined_fits (spaced g.K.Kind.label) c.args.events.now _ c.event-item.result c.loop-event-test.true c.event-item.is in grind (arith, common_steps)
