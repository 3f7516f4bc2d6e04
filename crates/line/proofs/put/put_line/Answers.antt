use Rattle.std.proofs.Common.{arith}
use Rattle.line.specs.Pieces.{piece_text}
use Rattle.line.proofs.Joining.{length_more, joined_fits}
use Rattle.line.proofs.Putting.{put_item}
use Rattle.line.proofs.put.put_line.Goals as goal

pub slice_bounds-put-count : goal.slice_bounds-put-count
slice_bounds-put-count g c = let fits = joined_fits (piece_text g.K.Kind.label) c.args.pieces.now _ _ c.loop-piece-test.true c.piece-item.is in omega arith

pub slice_bounds-put-start : goal.slice_bounds-put-start
slice_bounds-put-start g c = let fits = joined_fits (piece_text g.K.Kind.label) c.args.pieces.now _ _ c.loop-piece-test.true c.piece-item.is in omega arith

pub put-at-requires : goal.put-at-requires
put-at-requires g c = let fits = joined_fits (piece_text g.K.Kind.label) c.args.pieces.now _ _ c.loop-piece-test.true c.piece-item.is in omega arith

pub overflow_add-at : goal.overflow_add-at
overflow_add-at g c = let fits = joined_fits (piece_text g.K.Kind.label) c.args.pieces.now _ _ c.loop-piece-test.true c.piece-item.is in omega arith

pub loop-piece-preserved : goal.loop-piece-preserved
loop-piece-preserved g c =
    record {
      place = let more = length_more (piece_text g.K.Kind.label) c.args.pieces.now _ _ c.loop-piece-test.true c.piece-item.is in omega arith;
      row = put_item (piece_text g.K.Kind.label) c.args.pieces.now _ _ c.args.row.now _ _ _ c.loop-piece-test.true c.piece-item.is c.requires c.loop-piece.invariant.place c.loop-piece.invariant.row c.put-at.ensures.after;
    }
