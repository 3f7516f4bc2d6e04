use Rattle.std.proofs.Common.{◌≡◌, ℕ, ◌<◌, ◌≤◌, List, length, get_or, Option, sym, ap, ◌∙◌, subst, arith, length-set, Bor}
use Rattle.trail.specs.Moves.{stands_at}
use Rattle.trail.specs.Sound.{tapes_of}
use Rattle.search.specs.Walks.{at, support_of, DeeperMeans}
use Rattle.search.proofs.Walking.{spelled_deeper, rare}
use Rattle.search.proofs.walk.Walk.deeper.Goals as goal

pub returns-in_err-count-clause-means : goal.returns-in_err-count-clause-means
returns-in_err-count-clause-means g c sound =
    let walk = c.args.self.now in
    let trail = walk.trail in
    subst (λ (r : Option ℕ). DeeperMeans (support_of g.K.Kind.order walk) (at walk) c.args.place c.args.need r) (sym c.from_residual.ensures)
    (rare trail.lexicon.now g.K.Kind.order (tapes_of trail) (stands_at trail) c.args.place c.args.need
    (c.in_err-count.ensures.means sound (omega (arith, c.requires.short, walk.short, c.depth-depth.ensures.levels, c.depth-depth.ensures.list)) c.requires.known))

pub invariant_of-self-2-clause-spelled : goal.invariant_of-self-2-clause-spelled
invariant_of-self-2-clause-spelled g c =
    let walk = c.args.self.now in
    let trail = walk.trail in
    let e = c.in_ok-count.ensures in
    let d : ℕ = c.depth-depth.result in
    let y : g.row.K.Denot = c.index-lexicon-place.result in
    let items : List g.row.K.Denot = walk.room.items in
    let roomy : 16 ≤ length items = walk.roomy in
    let at : d ≡ length (stands_at trail) = c.depth-depth.ensures.list in
    let fits : d < length items = omega (arith, c.requires.short, walk.short) in
    spelled_deeper trail c.deeper.new.self e.same c.args.place c.args.need c.in_ok-count.count d items y e.moved at fits
    (c.index-lexicon-place.is ∙ ap (λ (r : Bor (List g.row.K.Denot)). get_or r.now c.args.place y) c.lexicon.ensures) walk.spelled

pub invariant_of-self-2-clause-roomy : goal.invariant_of-self-2-clause-roomy
invariant_of-self-2-clause-roomy g c =
    let walk = c.args.self.now in
    let d : ℕ = c.depth-depth.result in
    subst (λ (n : ℕ). 16 ≤ n) (sym (length-set walk.room.items d c.index-lexicon-place.result)) walk.roomy
