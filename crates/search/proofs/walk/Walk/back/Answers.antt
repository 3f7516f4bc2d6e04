use Rattle.std.proofs.Common.{List}
use Rattle.search.proofs.Walking.{spelled_back, back_last}
use Rattle.search.proofs.walk.Walk.back.Goals as goal

pub invariant_of-self-clause-spelled : goal.invariant_of-self-clause-spelled
invariant_of-self-clause-spelled g c =
    let walk = c.args.self.now in
    let e = c.back.ensures in
    let items : List g.row.K.Denot = walk.room.items in
    spelled_back walk.trail c.back.new.self e.same c.back.result items e.moved walk.spelled

pub returns-clause-moved : goal.returns-clause-moved
returns-clause-moved g c =
    let last = c.in_ok-last in
    back_last c.args.self.now.trail c.back.new.self c.back.result c.places.result.now last.field-0.now c.back.ensures.moved c.places.ensures.list c.places.ensures.levels last.ensures.item.3.0 last.ensures.item.1
