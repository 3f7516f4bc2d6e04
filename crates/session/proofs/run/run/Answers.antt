use Rattle.std.proofs.Common.{◌∷◌}
use Rattle.session.proofs.Runs.{ask_more, told_more, ran}
use Rattle.session.proofs.run.run.Goals as goal

pub loop-call-preserved : goal.loop-call-preserved
loop-call-preserved g c =
    let w = g.F.Filter.wants c.args.filter.now in
    let inv = c.loop-call.invariant in
    let step = c.send.ensures inv.0 inv.2 in (
      step.said ∷ inv.0,
      told_more w c.args.calls.now c.loop-call.call-index _ inv.0 inv.1 c.call-item.result c.send.result step.said _ c.loop-call-test.true c.call-item.is c.in_ok-push.ensures.items step.asks step.gets,
      step.stands,
      ask_more w step.said inv.0 c.call-item.result step.asks inv.3,
    )

pub returns : goal.returns
returns g c =
    let inv = c.loop-call.invariant in
    ran (g.F.Filter.wants c.args.filter.now) c.args.calls.now c.loop-call.call-index _ inv.0 inv.1 g.K.Kind.order c.loop-call.session inv.2 inv.3 c.loop-call-test.false
