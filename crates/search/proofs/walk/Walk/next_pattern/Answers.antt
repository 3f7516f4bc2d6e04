use Rattle.std.proofs.Common.{sym, subst}
use Rattle.search.specs.declared.turn.Turn.TheVariants.{Found, Go, End}
use Rattle.search.specs.Turns.{Limits, Stands}
use Rattle.search.specs.Walks.{at}
use Rattle.search.proofs.Walking.{same_more, same_limits}
use Rattle.search.proofs.Carrying.{carries_more, rests_here, reached_here}
use Rattle.search.proofs.walk.Walk.next_pattern.Goals as goal

pub advance-turn-requires : goal.advance-turn-requires
advance-turn-requires g c =
    let walk = c.args.self.now in
    let begun = c.begin-turn.new.self in
    let here = c.loop-turn.self in
    let e = c.begin-turn.ensures in
    let inv = c.loop-turn.invariant in
    subst (λ (l : Limits). Stands l (at here)) (sym (same_limits walk here (same_more walk begun here e.same inv.same) c.args.need))
    (rests_here g.K.Kind.order (g.F.Filter.wants c.args.filter.now) c.args.need walk begun here c.begin-turn.result c.loop-turn.turn (Go c.in-Go.place) e.same inv c.in-Go.is e.rests)

pub loop-turn-preserved : goal.loop-turn-preserved
loop-turn-preserved g c =
    let e = c.advance-turn.ensures in
    carries_more g.K.Kind.order (g.F.Filter.wants c.args.filter.now) c.args.need c.begin-turn.new.self c.loop-turn.self c.advance-turn.new.self c.begin-turn.result c.loop-turn.turn c.advance-turn.result c.in-Go.place c.in-Go.is c.loop-turn.invariant e.same e.sound e.moved e.turned

pub returns-in-Found : goal.returns-in-Found
returns-in-Found g c =
    let order = g.K.Kind.order in
    let wants = g.F.Filter.wants c.args.filter.now in
    let goal = c.args.need in
    let walk = c.args.self.now in
    let begun = c.begin-turn.new.self in
    let here = c.loop-turn.self in
    let first = c.begin-turn.result in
    let turn = c.loop-turn.turn in
    let found = Found c.in-Found.count in
    let e = c.begin-turn.ensures in
    let inv = c.loop-turn.invariant in
    record {
      same = same_more walk begun here e.same inv.same;
      moved = rests_here order wants goal walk begun here first turn found e.same inv c.in-Found.is e.rests;
      sound = λ sound. inv.sound (e.sound sound);
      finds = λ sound. reached_here order wants goal walk begun here first turn found e.same inv c.in-Found.is c.args.skip (e.sound sound) e.reached;
    }

pub returns-in-End : goal.returns-in-End
returns-in-End g c =
    let order = g.K.Kind.order in
    let wants = g.F.Filter.wants c.args.filter.now in
    let goal = c.args.need in
    let walk = c.args.self.now in
    let begun = c.begin-turn.new.self in
    let here = c.loop-turn.self in
    let first = c.begin-turn.result in
    let turn = c.loop-turn.turn in
    let e = c.begin-turn.ensures in
    let inv = c.loop-turn.invariant in
    let none = rests_here order wants goal walk begun here first turn End e.same inv c.in-End.is e.rests in
    record {
      same = same_more walk begun here e.same inv.same;
      moved = none;
      sound = λ sound. inv.sound (e.sound sound);
      finds = λ sound. (none, reached_here order wants goal walk begun here first turn End e.same inv c.in-End.is c.args.skip (e.sound sound) e.reached);
    }
