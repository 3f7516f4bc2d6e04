use Rattle.std.proofs.Common.{arith}
use Rattle.line.specs.Pieces.{spaced}
use Rattle.line.proofs.Joining.{length_more, joined_fits}
use Rattle.line.proofs.Putting.{put_item}
use Rattle.line.proofs.put.put_others.Goals as goal

pub slice_bounds-put_spaced-count : goal.slice_bounds-put_spaced-count
slice_bounds-put_spaced-count g c = let fits = joined_fits (spaced g.K.Kind.label) c.args.events.now _ c.event-item.result c.loop-event-test.true c.event-item.is in omega arith

pub slice_bounds-put_spaced-start : goal.slice_bounds-put_spaced-start
slice_bounds-put_spaced-start g c = let fits = joined_fits (spaced g.K.Kind.label) c.args.events.now _ c.event-item.result c.loop-event-test.true c.event-item.is in omega arith

pub put_spaced-at-requires : goal.put_spaced-at-requires
put_spaced-at-requires g c = let fits = joined_fits (spaced g.K.Kind.label) c.args.events.now _ c.event-item.result c.loop-event-test.true c.event-item.is in omega arith

pub overflow_add-at : goal.overflow_add-at
overflow_add-at g c = let fits = joined_fits (spaced g.K.Kind.label) c.args.events.now _ c.event-item.result c.loop-event-test.true c.event-item.is in omega arith

pub loop-event-preserved : goal.loop-event-preserved
loop-event-preserved g c =
    record {
      place = let more = length_more (spaced g.K.Kind.label) c.args.events.now _ c.event-item.result c.loop-event-test.true c.event-item.is in omega arith;
      row = put_item (spaced g.K.Kind.label) c.args.events.now _ c.event-item.result c.args.row.now _ _ _ c.loop-event-test.true c.event-item.is c.requires c.loop-event.invariant.place c.loop-event.invariant.row c.put_spaced-at.ensures.after;
    }
