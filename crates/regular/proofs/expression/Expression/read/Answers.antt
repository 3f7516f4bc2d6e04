use Rattle.std.proofs.Common.{◌≡◌, ◌+◌, List, [], ◌∷◌, ◌++◌, take, sym, ap, ◌∙◌, subst}
use Rattle.std.proofs.lemmas.List.{take_more, take_all}
use Rattle.regular.specs.Expressions.{HasRead}
use Rattle.regular.proofs.Standing.{ahead_below, read_more}
use Rattle.regular.proofs.expression.Expression.read.Goals as goal

pub step-reading-requires : goal.step-reading-requires
step-reading-requires g c = ahead_below g.K.Kind.order c.args.self.now (take c.loop-event.event-index c.args.list.now) c.loop-event.reading c.loop-event.invariant

pub loop-event-preserved : goal.loop-event-preserved
loop-event-preserved g c =
    let order = g.K.Kind.order in
    let x = c.args.self.now in
    let list = c.args.list.now in
    let k = c.loop-event.event-index in
    let e = c.event-item.result in
    let more : take (k + 1) list ≡ take k list ++ (e ∷ []) =
    take_more list k e c.loop-event-test.true ∙ ap (λ z. take k list ++ (z ∷ [])) (sym c.event-item.is) in
    subst (λ (w : List g.row.K.Denot). HasRead order x w c.step-reading.result) (sym more) (read_more order x (take k list) c.loop-event.reading c.loop-event.invariant e c.step-reading.result c.step-reading.ensures)

pub returns : goal.returns
returns g c =
    let all : take c.loop-event.event-index c.args.list.now ≡ c.args.list.now = take_all _ _ c.loop-event-test.false in
    subst (λ (w : List g.row.K.Denot). HasRead g.K.Kind.order c.args.self.now w c.loop-event.reading) all c.loop-event.invariant
