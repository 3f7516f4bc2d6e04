use Rattle.std.proofs.Common.{◌≡◌, length, take}
use Rattle.event.specs.Rows.{laid}
use Rattle.line.specs.Pieces.{line_text}
use Rattle.line.proofs.put.put_line.Given as goal

abbrev pub invariant-loop-piece : goal.invariant-loop-piece
invariant-loop-piece g l =
    let done = line_text g.K.Kind.label (take l.piece-index l.pieces) in
    record { place : l.at ≡ length done; row : l.row ≡ laid done l.initial.row }
