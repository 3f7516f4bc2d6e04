use Rattle.std.proofs.Common.{◌≡◌, length, take}
use Rattle.std.specs.List.{flat_map}
use Rattle.event.specs.Rows.{laid}
use Rattle.line.specs.Pieces.{spaced}
use Rattle.line.proofs.put.put_others.Given as goal

abbrev pub invariant-loop-event : goal.invariant-loop-event
invariant-loop-event g l =
    let done = flat_map (spaced g.K.Kind.label) (take l.event-index l.events) in
    record { place : l.at ≡ length done; row : l.row ≡ laid done l.initial.row }
