use Rattle.std.proofs.Common.{arith}
use Rattle.std.proofs.lemmas.List.{get_or_default}
use Rattle.line.specs.Pieces.{hex_pair}
use Rattle.line.proofs.Joining.{length_more, joined_fits}
use Rattle.line.proofs.Putting.{put_item}
use Rattle.line.proofs.put.put_hex.Goals as goal

pub slice_bounds-put_pair-count : goal.slice_bounds-put_pair-count
slice_bounds-put_pair-count c = let fits = joined_fits hex_pair c.args.bytes.now _ _ c.loop-b-test.true (get_or_default c.args.bytes.now c.loop-b.b-index 0 _ c.loop-b-test.true) in omega arith

pub slice_bounds-put_pair-start : goal.slice_bounds-put_pair-start
slice_bounds-put_pair-start c = let fits = joined_fits hex_pair c.args.bytes.now _ _ c.loop-b-test.true (get_or_default c.args.bytes.now c.loop-b.b-index 0 _ c.loop-b-test.true) in omega arith

pub put_pair-at-requires : goal.put_pair-at-requires
put_pair-at-requires c = let fits = joined_fits hex_pair c.args.bytes.now _ _ c.loop-b-test.true (get_or_default c.args.bytes.now c.loop-b.b-index 0 _ c.loop-b-test.true) in omega arith

pub overflow_add-at : goal.overflow_add-at
overflow_add-at c = let fits = joined_fits hex_pair c.args.bytes.now _ _ c.loop-b-test.true (get_or_default c.args.bytes.now c.loop-b.b-index 0 _ c.loop-b-test.true) in omega arith

pub loop-b-preserved : goal.loop-b-preserved
loop-b-preserved c =
    record {
      place = let more = length_more hex_pair c.args.bytes.now _ _ c.loop-b-test.true (get_or_default c.args.bytes.now c.loop-b.b-index 0 _ c.loop-b-test.true) in omega arith;
      row = put_item hex_pair c.args.bytes.now _ _ c.args.row.now _ _ _ c.loop-b-test.true (get_or_default c.args.bytes.now c.loop-b.b-index 0 _ c.loop-b-test.true) c.requires c.loop-b.invariant.place c.loop-b.invariant.row c.put_pair-at.ensures.after;
    }
