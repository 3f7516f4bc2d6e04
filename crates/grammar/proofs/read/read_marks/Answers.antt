use Rattle.std.proofs.Common.{◌≡◌, ◌<◌, length, slice_get, None, arith}
use Rattle.grammar.proofs.Parts.{left_over, whole}
use Rattle.grammar.proofs.read.read_marks.Goals as goal

pub returns-then-is_some : goal.returns-then-is_some
returns-then-is_some c =
    let past = c.expression.new.self in
    let h = c.in_ok-root.ensures in
    let b : past.at < length past.marks.now = grind arith in
    left_over h.onward.marks h.gives b

pub returns : goal.returns
returns c =
    let past = c.expression.new.self in
    let h = c.in_ok-root.ensures in
    let b : slice_get past.marks.now past.at ≡ None = grind arith in
    whole h.onward.marks h.gives b
