use Rattle.std.proofs.Common.{◌≡◌, ℕ, ◌+◌, ◌-◌, ◌*◌, ◌%◌, ◌^◌, ap, inl, inr, arith}
use Rattle.matching.specs.Picks.{picked}
use Rattle.matching.proofs.Ordered.{Ordered}
use Rattle.matching.proofs.Picking.{length_picked}
use Rattle.matching.proofs.Placing.{all_front, none_back, step_whole, step_half, step_by}
use Rattle.matching.proofs.learning.Picks.place_of.Goals as goal
use Rattle.matching.proofs.learning.Picks.place_of.Goals.{then-is_before, else-is_before}

pub returns-then-count-eq0 : goal.returns-then-count-eq0
returns-then-count-eq0 g c =
    let l = length_picked c.args.self.now.events.now c.args.self.now.places.now c.args.self.now.within in
    record {
      bound = omega arith;
      stands = record { inside = omega arith; front = λ k d h. absurd (omega arith); back = λ k d a b. absurd (omega arith) };
    }

pub loop-power-init : goal.loop-power-init
loop-power-init g c =
    let laws : Ordered g.K.Kind.order = record { itself = g.met.K.Kind.alike_itself; exchanged = g.met.K.Kind.exchanged; carried = g.met.K.Kind.carried } in
    let lexicon = picked c.args.self.now.events.now c.args.self.now.places.now in
    let middle = (1 * 2 ^ c.ilog2-power.result) % 18446744073709551616 - 1 in
    let l = length_picked c.args.self.now.events.now c.args.self.now.places.now c.args.self.now.within in
    let s = step_whole c.ilog2-power.result c.ilog2-power.ensures.bound in
    elim c.if-is_before.branch [
      | then-is_before w ↦
          (c.ilog2-power.ensures.bound, omega (arith, w.low-is), (λ k d h. all_front g.K.Kind.order c.args.event.now laws lexicon c.args.self.now.rising middle (omega arith) c.is_before.result c.is_before.ensures w.if-is_before.true k d (omega (arith, w.low-is))), (λ k d a b. absurd (omega (arith, w.low-is))))
      | else-is_before w ↦
          (c.ilog2-power.ensures.bound, omega (arith, w.low-is), (λ k d h. absurd (omega (arith, w.low-is))), (λ k d a b. none_back g.K.Kind.order c.args.event.now laws lexicon c.args.self.now.rising middle (omega arith) c.is_before.result c.is_before.ensures w.if-is_before.false k d (omega (arith, w.low-is)) b))
    ]

pub is_before-requires-in-loop-power : goal.is_before-requires-in-loop-power
is_before-requires-in-loop-power g c =
    let s = step_whole (c.loop-power.power - 1) (omega arith) in
    let e = step_half c.loop-power.power (omega arith) in
    omega arith

pub loop-power-preserved : goal.loop-power-preserved
loop-power-preserved g c =
    let laws : Ordered g.K.Kind.order = record { itself = g.met.K.Kind.alike_itself; exchanged = g.met.K.Kind.exchanged; carried = g.met.K.Kind.carried } in
    let lexicon = picked c.args.self.now.events.now c.args.self.now.places.now in
    let power = c.loop-power.power - 1 in
    let middle = c.loop-power.low + (1 * 2 ^ power) % 18446744073709551616 - 1 in
    let l = length_picked c.args.self.now.events.now c.args.self.now.places.now c.args.self.now.within in
    let s = step_whole power (omega arith) in
    let e = step_half c.loop-power.power (omega arith) in
    let answer = c.is_before-in-loop-power.result in
    elim (step_by answer c.from.result power c.from.ensures) [
      | inl w ↦
          (omega arith, omega (arith, w.1), (λ k d h. all_front g.K.Kind.order c.args.event.now laws lexicon c.args.self.now.rising middle (omega arith) answer c.is_before-in-loop-power.ensures w.0 k d (omega (arith, w.1))), (λ k d a b. c.loop-power.invariant.3 k d (omega (arith, w.1)) b))
      | inr w ↦
          (omega arith, omega (arith, w.1), (λ k d h. c.loop-power.invariant.2 k d (omega (arith, w.1))), (λ k d a b. none_back g.K.Kind.order c.args.event.now laws lexicon c.args.self.now.rising middle (omega arith) answer c.is_before-in-loop-power.ensures w.0 k d (omega (arith, w.1)) b))
    ]

pub returns : goal.returns
returns g c =
    let l = length_picked c.args.self.now.events.now c.args.self.now.places.now c.args.self.now.within in
    let z : c.loop-power.power ≡ 0 = omega arith in
    let e = ap (λ (k : ℕ). 2 ^ k) z in
    record {
      bound = omega arith;
      stands = record { inside = omega arith; front = c.loop-power.invariant.2; back = λ k d a b. c.loop-power.invariant.3 k d (omega arith) b };
    }
