use Rattle.std.proofs.Common.{◌≡◌, ◌++◌, map, drop}
use Rattle.std.specs.List.{range_with_len}
use Rattle.bundle.specs.Bundles.{offset_in}
use Rattle.bundle.proofs.reader.BundleFile.copy_offsets.Given as goal

abbrev pub invariant-loop-index : goal.invariant-loop-index
invariant-loop-index l =
    l.slot-items ≡ map (offset_in l.self.bytes.now) (range_with_len 0 l.index) ++ drop l.index l.initial.slot-items
