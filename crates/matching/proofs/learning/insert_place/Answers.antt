use Rattle.std.proofs.Common.{arith}
use Rattle.matching.proofs.Picking.{inserted}
use Rattle.matching.proofs.learning.insert_place.Goals as goal

pub returns : goal.returns
returns c =
    inserted c.args.places.now c.loop-slot.slot-items c.args.count c.args.at c.args.place c.requires.inside c.requires.room (omega arith) (λ k h. c.loop-slot.invariant.front k (omega arith))
