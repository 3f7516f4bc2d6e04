use Rattle.std.proofs.Common.{◌≡◌, ℕ, ◌+◌, ◌^◌, ◌<◌, ◌≤◌, false, length, get_or}
use Rattle.event.specs.declared.order.Order.TheVariants.{Before}
use Rattle.event.specs.Orders.{is_before}
use Rattle.matching.specs.Picks.{picked}
use Rattle.matching.proofs.learning.Picks.place_of.Given as goal

abbrev pub invariant-loop-power : goal.invariant-loop-power
invariant-loop-power g l =
    (l.power < 64)
    × (l.low + 2 ^ l.power ≤ length l.self.places.now + 1)
    × ((k : ℕ) (d : g.row.K.Denot) → k < l.low → g.K.Kind.order (get_or (picked l.self.events.now l.self.places.now) k d) l.event ≡ Before)
    × ((k : ℕ) (d : g.row.K.Denot) → l.low + 2 ^ l.power ≤ k + 1 → k < length (picked l.self.events.now l.self.places.now) → is_before (g.K.Kind.order (get_or (picked l.self.events.now l.self.places.now) k d) l.event) ≡ false)

abbrev pub decreases-loop-power : goal.decreases-loop-power
decreases-loop-power g l = l.power
