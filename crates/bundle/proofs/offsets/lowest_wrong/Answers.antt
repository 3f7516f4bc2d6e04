use Rattle.std.proofs.Common.{not, map, length, sym, ◌∙◌, arith}
use Rattle.std.proofs.lemmas.List.FromFn.{length-map-range_with_len}
use Rattle.std.specs.List.{range_with_len}
use Rattle.bundle.specs.Offsets.{right_at}
use Rattle.bundle.proofs.Lowest.{wrong_on, wrong_here, before_next, lowest_all}
use Rattle.bundle.proofs.offsets.lowest_wrong.Goals as goal

pub returns-then-not-is_right-clause-lowest : goal.returns-then-not-is_right-clause-lowest
returns-then-not-is_right-clause-lowest g c = λ at gives.
    let so_far = c.loop-index.invariant at gives in
    let is = gives c.loop-index.index c.offset-here.result c.loop-index-test.true c.offset-here.ensures in
    wrong_here c.args.events at c.args.count c.loop-index.index c.loop-index.before c.offset-here.result c.then_some-end.result c.loop-index-test.true so_far.0 is c.then_some-end.ensures (sym c.if-not-is_right.true ∙ c.is_right.ensures) ∙ so_far.1

pub loop-index-preserved : goal.loop-index-preserved
loop-index-preserved g c = λ at gives.
    let so_far = c.loop-index.invariant at gives in
    let is = gives c.loop-index.index c.offset-here.result c.loop-index-test.true c.offset-here.ensures in
    (before_next c.args.events at c.args.count c.loop-index.index c.loop-index.before c.offset-here.result c.then_some-end.result c.loop-index-test.true so_far.0 is c.then_some-end.ensures, wrong_on c.args.events at c.args.count c.loop-index.index c.loop-index.before c.offset-here.result c.then_some-end.result c.loop-index-test.true so_far.0 is c.then_some-end.ensures (sym c.if-not-is_right.false ∙ c.is_right.ensures) ∙ so_far.1)

pub returns-clause-lowest : goal.returns-clause-lowest
returns-clause-lowest g c = λ at gives.
    let offsets = map at (range_with_len 0 c.args.count) in
    let count = length-map-range_with_len at 0 c.args.count in
    lowest_all (λ k. not (right_at c.args.events offsets k)) (length offsets) c.loop-index.index (omega (arith, count)) ∙ (c.loop-index.invariant at gives).1
