use Rattle.std.proofs.Common.{◌≡◌, ◌+◌, length, take}
use Rattle.std.specs.List.{flat_map}
use Rattle.line.specs.Pieces.{spaced}
use Rattle.line.proofs.writer.after_others.Given as goal

abbrev pub invariant-loop-event : goal.invariant-loop-event
invariant-loop-event g l =
    length (flat_map (spaced g.K.Kind.label) (take l.event-index l.events)) + l.rest ≡ l.room
