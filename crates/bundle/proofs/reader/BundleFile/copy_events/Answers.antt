use Rattle.std.proofs.Common.{◌<◌, take, set, refl, arith}
use Rattle.std.proofs.lemmas.List.{length-take-le}
use Rattle.event.specs.declared.refusal.Refusal.TheVariants as refusal
use Rattle.bundle.specs.Bundles.{events_in}
use Rattle.bundle.proofs.Events.{is_read, copied_more}
use Rattle.bundle.proofs.reader.BundleFile.copy_events.Goals as goal

pub unwrap-requires : goal.unwrap-requires
unwrap-requires g c =
    let f = c.args.self.now in
    let within : c.loop-index.index < events_in f.bytes.now = omega (arith, f.event_count, length-take-le f.events c.args.row.now c.requires.room) in
    is_read f.width g.K.Kind.stands f.bytes.now refusal.Event c.loop-index.index c.event.result c.requires.all_stand within c.event.ensures

pub loop-index-preserved : goal.loop-index-preserved
loop-index-preserved g c =
    let f = c.args.self.now in
    copied_more f.width g.K.Kind.stands f.bytes.now refusal.Event c.loop-index.index c.event.result (take f.events c.args.row.now) c.loop-index.slot-items (set c.loop-index.slot-items c.loop-index.index c.unwrap.result) c.unwrap.result c.event.ensures c.unwrap.ensures c.loop-index-test.true c.loop-index.invariant refl
