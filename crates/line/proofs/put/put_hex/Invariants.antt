use Rattle.std.proofs.Common.{◌≡◌, length, take}
use Rattle.std.specs.List.{flat_map}
use Rattle.event.specs.Rows.{laid}
use Rattle.line.specs.Pieces.{hex_pair}
use Rattle.line.proofs.put.put_hex.Given as goal

abbrev pub invariant-loop-b : goal.invariant-loop-b
invariant-loop-b l =
    let done = flat_map hex_pair (take l.b-index l.bytes) in
    record { place : l.at ≡ length done; row : l.row ≡ laid done l.initial.row }
