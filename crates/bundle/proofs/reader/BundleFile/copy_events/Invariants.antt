use Rattle.bundle.proofs.Events.{Copied}
use Rattle.bundle.proofs.reader.BundleFile.copy_events.Given as goal

abbrev pub invariant-loop-index : goal.invariant-loop-index
invariant-loop-index g l =
    Copied l.self.width g.K.Kind.stands l.self.bytes.now l.initial.slot-items l.index l.slot-items
