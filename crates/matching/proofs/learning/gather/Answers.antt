use Rattle.std.proofs.Common.{refl, ◌∙◌, arith}
use Rattle.matching.proofs.Gathering.{gather_none, gather_same, place_within, gather_full, gather_more}
use Rattle.matching.proofs.Ordered.{Ordered}
use Rattle.matching.proofs.learning.gather.Goals as goal

pub loop-i-init : goal.loop-i-init
loop-i-init g c = (refl, gather_none g.K.Kind.order c.args.events.now c.args.most c.args.places.now)

pub loop-i-preserved-in_default : goal.loop-i-preserved-in_default
loop-i-preserved-in_default g c =
    let placed = c.in_default.ensures in
    (c.loop-i.invariant.0, gather_same g.K.Kind.order c.args.events.now c.args.most c.loop-i.places c.loop-i.count c.loop-i.i c.index-events-i.result c.loop-i.invariant.1 (omega (arith, c.loop-i.invariant.0, c.requires.room)) c.loop-i-test.true c.index-events-i.is placed)

pub returns-then-count-most : goal.returns-then-count-most
returns-then-count-most g c =
    let laws : Ordered g.K.Kind.order = record { itself = g.met.K.Kind.alike_itself; exchanged = g.met.K.Kind.exchanged; carried = g.met.K.Kind.carried } in
    let placed = c.in-Some.ensures in
    gather_full g.K.Kind.order c.args.events.now c.args.most c.loop-i.places c.loop-i.count c.loop-i.i c.index-events-i.result c.loop-i.invariant.1 (omega (arith, c.loop-i.invariant.0, c.requires.room)) c.loop-i-test.true c.index-events-i.is laws c.in-Some.at placed (omega arith)

pub insert_place-requires : goal.insert_place-requires
insert_place-requires g c =
    let laws : Ordered g.K.Kind.order = record { itself = g.met.K.Kind.alike_itself; exchanged = g.met.K.Kind.exchanged; carried = g.met.K.Kind.carried } in
    let placed = c.in-Some.ensures in
    record {
      inside = place_within g.K.Kind.order c.args.events.now c.args.most c.loop-i.places c.loop-i.count c.loop-i.i c.index-events-i.result c.loop-i.invariant.1 (omega (arith, c.loop-i.invariant.0, c.requires.room)) c.loop-i-test.true c.index-events-i.is laws c.in-Some.at placed;
      room = omega (arith, c.loop-i.invariant.0, c.loop-i.invariant.1.few, c.if-count-most.false, c.requires.room);
    }

pub loop-i-preserved : goal.loop-i-preserved
loop-i-preserved g c =
    let laws : Ordered g.K.Kind.order = record { itself = g.met.K.Kind.alike_itself; exchanged = g.met.K.Kind.exchanged; carried = g.met.K.Kind.carried } in
    let placed = c.in-Some.ensures in
    (c.insert_place.auto.places ∙ c.loop-i.invariant.0, gather_more g.K.Kind.order c.args.events.now c.args.most c.loop-i.places c.loop-i.count c.loop-i.i c.index-events-i.result c.loop-i.invariant.1 (omega (arith, c.loop-i.invariant.0, c.requires.room)) c.loop-i-test.true c.index-events-i.is laws c.in-Some.at placed c.insert_place.new.places c.insert_place.ensures (omega (arith, c.loop-i.invariant.1.few, c.if-count-most.false)))
