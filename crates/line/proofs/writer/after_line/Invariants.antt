use Rattle.std.proofs.Common.{◌≡◌, ◌+◌, length, take}
use Rattle.line.specs.Pieces.{line_text}
use Rattle.line.proofs.writer.after_line.Given as goal

abbrev pub invariant-loop-piece : goal.invariant-loop-piece
invariant-loop-piece g l = length (line_text g.K.Kind.label (take l.piece-index l.pieces)) + l.rest ≡ l.room
