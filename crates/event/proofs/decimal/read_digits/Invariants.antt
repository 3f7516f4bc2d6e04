use Rattle.std.proofs.Common.{◌≡◌, ◌≤◌, drop}
use Rattle.event.specs.Numerals.{read_from}
use Rattle.event.proofs.decimal.read_digits.Given as goal

abbrev pub invariant-loop-b : goal.invariant-loop-b
invariant-loop-b l =
    (l.value ≤ l.most) × (read_from l.most l.value (drop l.b-index l.bytes) ≡ read_from l.most 0 l.bytes)
