use Rattle.std.proofs.Common.{◌≡◌, ℕ, List, ◌++◌, length, get_or, take, drop, set, refl, sym, ap, ◌∙◌, arith}
use Rattle.std.proofs.lemmas.List.{take_all}
use Rattle.matching.specs.Picks.{picked}
use Rattle.matching.proofs.Picking.{lay_more}
use Rattle.matching.proofs.learning.Picks.lay.Goals as goal

pub loop-k-preserved : goal.loop-k-preserved
loop-k-preserved g c =
    let events = c.args.self.now.events.now in
    let places = c.args.self.now.places.now in
    let k = c.loop-k.k in
    ap (set c.loop-k.row k) (sym c.index-self-place.is)
    ∙ ap (λ (l : List g.row.K.Denot). set l k c.index-self-place.result) c.loop-k.invariant
    ∙ lay_more events (get_or places k 0) c.index-self-place.result (c.args.self.now.within k c.loop-k-test.true) c.index-self-place.is places c.args.row.now k c.args.self.now.within c.loop-k-test.true c.requires refl

pub returns : goal.returns
returns g c =
    let events = c.args.self.now.events.now in
    let places = c.args.self.now.places.now in
    let all : c.loop-k.k ≡ length places = omega arith in
    c.loop-k.invariant
    ∙ ap (λ (k : ℕ). picked events (take k places) ++ drop k c.args.row.now) all
    ∙ ap (λ (ps : List ℕ). picked events ps ++ drop (length places) c.args.row.now) (take_all (length places) places (omega arith))
