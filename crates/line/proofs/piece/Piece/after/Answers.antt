use Rattle.std.proofs.Common.{refl, arith}
use Rattle.std.proofs.lemmas.Grind.{common_steps}
use Rattle.line.specs.Pieces.{hex_pair}
use Rattle.line.proofs.Joining.{length_joined}
use Rattle.line.proofs.piece.Piece.after.Goals as goal

pub returns-in-Bytes : goal.returns-in-Bytes
returns-in-Bytes g c = let twice = length_joined hex_pair 2 (λ b. refl) c.in-Bytes.bytes.now in grind (arith, common_steps)
