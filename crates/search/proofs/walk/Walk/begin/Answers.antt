use Rattle.search.specs.Walks.{at, support_of, wants_of, limits_of}
use Rattle.search.proofs.Resting.{rests_left}
use Rattle.search.proofs.Passed.{reached_past, reached_below}
use Rattle.search.proofs.Walking.{below_walk}
use Rattle.search.proofs.walk.Walk.begin.Goals as goal
use Rattle.search.proofs.walk.Walk.begin.Goals.{then-skip-via-then-skip, then-skip-via-else-skip+then-is_closed}

pub returns-then-skip-clause-rests : goal.returns-then-skip-clause-rests
returns-then-skip-clause-rests g c =
    let walk = c.args.self.now in
    rests_left (limits_of walk c.args.need) (at walk) (at c.leave.new.self) c.leave.result walk.fit (below_walk walk) c.leave.ensures.moved

pub returns-then-skip-clause-reached : goal.returns-then-skip-clause-reached
returns-then-skip-clause-reached g c =
    let walk = c.args.self.now in
    reached_past (limits_of walk c.args.need) (support_of g.K.Kind.order walk) (wants_of (g.F.Filter.wants c.args.filter.now) walk) (at walk) c.args.skip (at c.leave.new.self) c.leave.result
    (λ q k b.
    elim c.then-skip.branch [
      | then-skip-via-then-skip y ↦ k.free y.if-skip.true b
      | then-skip-via-else-skip+then-is_closed y ↦ y.is_closed.ensures.hopeless y.if-is_closed.true q b k.pattern k.wanted
    ])
    c.leave.ensures.moved

pub returns-clause-rests : goal.returns-clause-rests
returns-clause-rests g c =
    record { short = c.is_closed.ensures.short c.if-is_closed.false; within = below_walk c.args.self.now }

pub returns-clause-reached : goal.returns-clause-reached
returns-clause-reached g c =
    let walk = c.args.self.now in
    reached_below (limits_of walk c.args.need) (support_of g.K.Kind.order walk) (wants_of (g.F.Filter.wants c.args.filter.now) walk) (at walk) c.args.skip c.if-skip.false
