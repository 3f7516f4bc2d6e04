use Rattle.std.proofs.Common.{◌<◌, length, sym, ap, ◌∙◌, arith}
use Rattle.matching.specs.Picks.{picked}
use Rattle.matching.proofs.Picking.{length_picked, read_picked}
use Rattle.matching.proofs.Placing.{with_same, with_inserted, after_else}
use Rattle.matching.proofs.learning.Picks.new_place.Goals as goal

pub returns-then-at-self : goal.returns-then-at-self
returns-then-at-self g c =
    let picks = c.args.self.now in
    let event = c.args.event.now in
    let l = length_picked picks.events.now picks.places.now picks.within in
    let s = c.place_of-at.ensures.stands in
    (s.inside, with_inserted g.K.Kind.order event (picked picks.events.now picks.places.now) c.place_of-at.result s.inside (λ k h. s.front k event h) (λ h. absurd (omega arith)))

pub returns-in-Alike : goal.returns-in-Alike
returns-in-Alike g c =
    let picks = c.args.self.now in
    let event = c.args.event.now in
    let at = c.place_of-at.result in
    let against = λ (y : g.row.K.Denot). g.K.Kind.order y event in
    let inside : at < length picks.places.now = omega (arith, c.if-at-self.false, c.place_of-at.ensures.bound) in
    let l = length_picked picks.events.now picks.places.now picks.within in
    let read = read_picked picks.events.now picks.places.now picks.within at inside c.index-self-self.result c.index-self-self.is event in
    with_same g.K.Kind.order event (picked picks.events.now picks.places.now) at (omega arith) (λ k h. c.place_of-at.ensures.stands.front k event h)
    (ap against (read ∙ c.index-self-self.is) ∙ sym c.in-Alike.ensures)

pub returns-in_default : goal.returns-in_default
returns-in_default g c =
    let picks = c.args.self.now in
    let event = c.args.event.now in
    let at = c.place_of-at.result in
    let against = λ (y : g.row.K.Denot). g.K.Kind.order y event in
    let inside : at < length picks.places.now = omega (arith, c.if-at-self.false, c.place_of-at.ensures.bound) in
    let l = length_picked picks.events.now picks.places.now picks.within in
    let s = c.place_of-at.ensures.stands in
    let read = read_picked picks.events.now picks.places.now picks.within at inside c.index-self-self.result c.index-self-self.is event in
    (s.inside, with_inserted g.K.Kind.order event (picked picks.events.now picks.places.now) at s.inside (λ k h. s.front k event h) (λ h. after_else (g.K.Kind.order _ event) (s.back at event (omega arith) h) (λ e. c.in_default.not-Alike (c.compare.ensures ∙ ap against (sym c.index-self-self.is ∙ sym read) ∙ e))))
