use Rattle.std.proofs.Common.{arith}
use Rattle.std.proofs.lemmas.Grind.{common_steps}
use Rattle.line.specs.Pieces.{piece_text}
use Rattle.line.proofs.Joining.{joined_fits}
use Rattle.line.proofs.writer.after_line.Goals as goal

pub returns-in_err-rest : goal.returns-in_err-rest
returns-in_err-rest g c = let fits = joined_fits (piece_text g.K.Kind.label) c.args.pieces.now c.loop-piece.piece-index _ c.loop-piece-test.true c.piece-item.is in grind (arith, common_steps)
