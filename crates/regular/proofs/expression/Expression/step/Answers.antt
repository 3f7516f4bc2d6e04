use Rattle.std.proofs.Common.{◌≡◌, true, false, ◌<◌, ◌||◌, length, get_or, sym, ap, ◌∙◌}
use Rattle.std.proofs.lemmas.List.{get_or_read_under}
use Rattle.regular.specs.Expressions.{labels_of, meets}
use Rattle.regular.specs.Members.{member}
use Rattle.regular.proofs.Looking.{looked_none, looked_all, looked_met, looked_unmet}
use Rattle.regular.proofs.Readings.{meets_is}
use Rattle.regular.proofs.Sets.{of_bits}
use Rattle.regular.proofs.expression.Expression.step.Goals as goal

pub loop-place-init : goal.loop-place-init
loop-place-init g c = looked_none _ _ _ _ _ _ c.into_iter-place-iterator.ensures.into_iter_gives c.new-ahead.ensures

pub loop-place-preserved-then-meets : goal.loop-place-preserved-then-meets
loop-place-preserved-then-meets g c =
    let x = c.args.self.now in
    let n = length (labels_of x) in
    let rows = x.automaton.follow.items in
    let k = c.in-Some.place in
    let taken = c.in-Some.ensures.steps in
    let lt : k < n = c.requires k (c.loop-place.invariant.ours k taken.has) in
    let fits : meets g.K.Kind.order x k c.args.event.now ≡ true = meets_is g.K.Kind.order x c.index.result.now k c.args.event.now true lt c.index.ensures (sym c.if-meets.true ∙ c.meets.ensures) in
    let row : c.index-then-meets.result.now ≡ get_or rows k (of_bits 0) = get_or_read_under rows k n c.index-then-meets.result.now (of_bits 0) c.index-then-meets.ensures lt (sym x.made.each) in
    looked_met x.automaton n (λ p. meets g.K.Kind.order x p c.args.event.now) c.args.reading c.loop-place.place-iterator.left c.next.new.self.left c.loop-place.ahead k c.loop-place.ended c.loop-place.invariant lt taken
    c.bitor_assign.new.self (c.loop-place.ended || c.contains-ended.result) fits
    (λ q. c.bitor_assign.ensures.after q ∙ ap (λ z. member c.loop-place.ahead q || member z q) row)
    (ap (λ b. c.loop-place.ended || b) c.contains-ended.ensures)

pub loop-place-preserved : goal.loop-place-preserved
loop-place-preserved g c =
    let x = c.args.self.now in
    let n = length (labels_of x) in
    let k = c.in-Some.place in
    let taken = c.in-Some.ensures.steps in
    let lt : k < n = c.requires k (c.loop-place.invariant.ours k taken.has) in
    let misses : meets g.K.Kind.order x k c.args.event.now ≡ false = meets_is g.K.Kind.order x c.index.result.now k c.args.event.now false lt c.index.ensures (sym c.if-meets.false ∙ c.meets.ensures) in
    looked_unmet x.automaton n (λ p. meets g.K.Kind.order x p c.args.event.now) c.args.reading c.loop-place.place-iterator.left c.next.new.self.left c.loop-place.ahead k c.loop-place.ended c.loop-place.invariant lt taken misses

pub returns : goal.returns
returns g c = looked_all _ _ _ _ _ _ _ c.loop-place.invariant c.in-None.ensures.steps
