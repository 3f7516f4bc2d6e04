use Rattle.std.proofs.Common.{◌≡◌, ℕ, ◌+◌, ◌<◌, List, ◌++◌, map, length, take, drop, set}
use Rattle.std.specs.List.{range_with_len}
use Rattle.bundle.specs.Bundles.{offset_in}
use Rattle.bundle.proofs.Rows.{write_counted_more}
use Rattle.bundle.proofs.reader.BundleFile.copy_offsets.Goals as goal

-- one turn
more : (f : ℕ → ℕ) (start row : List ℕ) (i x : ℕ) → row ≡ map f (range_with_len 0 i) ++ drop i start → x ≡ f i → i < length start → set row i x ≡ map f (range_with_len 0 (i + 1)) ++ drop (i + 1) start
more f start row i x inv e h = let w = write_counted_more f start i h in cc

pub loop-index-preserved : goal.loop-index-preserved
loop-index-preserved c =
    let f = c.args.self.now in
    more (offset_in f.bytes.now) (take (f.tapes + 1) c.args.row.now) c.loop-index.slot-items c.loop-index.index c.offset.result c.loop-index.invariant c.offset.ensures c.loop-index-test.true
