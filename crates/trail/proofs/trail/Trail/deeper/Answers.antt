use Rattle.std.proofs.Common.{◌≡◌, ◌+◌, ◌<◌, ◌≢◌, [], ◌∷◌, length, sym, refl, ap, ◌∙◌, arith, rules}
use Rattle.std.proofs.lemmas.List.{get_or-set_same, get_or-set_other}
use Rattle.trail.specs.declared.level.Head.{Head}
use Rattle.trail.specs.Levels.{end}
use Rattle.trail.specs.Trials.{behind}
use Rattle.matching.specs.Picks.{picked}
use Rattle.trail.proofs.Growing.{reached, missed}
use Rattle.trail.proofs.Stepping.{steps_more, known_more}
use Rattle.trail.proofs.Sounding.{picked_event, deepened, sound_unmoved, sound_deeper, counts_grown}
use Rattle.trail.proofs.trail.Trail.deeper.Goals as goal

pub returns-in_err-count-clause-means : goal.returns-in_err-count-clause-means
returns-in_err-count-clause-means g c =
    let trail = c.args.self.now in
    let event = c.in_ok-event.event.now in
    let place = c.args.place in
    let tried = rw c.new-trial.ensures.saved at c.in_err-count.ensures.answer in
    rw c.from_residual-in_err-count.ensures
    (λ sound room known.
    let few = missed c.args.need _ tried in
    let counted = counts_grown g.K.Kind.order trail sound event (picked trail.lexicon.now (place ∷ [])) (picked_event trail.lexicon.now place event known c.in_ok-event.ensures.lookup.1) in
    omega arith)

pub returns-in_err-count-clause-sound : goal.returns-in_err-count-clause-sound
returns-in_err-count-clause-sound g c =
    sound_unmoved g.K.Kind.order c.args.self.now _ (search rules) (search rules)

pub invariant_of-self-2 : goal.invariant_of-self-2
invariant_of-self-2 g c =
    let trail = c.args.self.now in
    let d = trail.depth in
    let next = c.keep.new.self.0 in
    let tried = rw c.new-trial.ensures.saved at c.in_ok-count.ensures in
    let head : next ≡ behind trail.head c.in_ok-count.count = c.keep.ensures ∙ tried.moved in
    let start : next.start ≡ end trail.head = ap (λ (h : Head). h.start) head in
    let count : next.count ≡ c.in_ok-count.count = ap (λ (h : Head). h.count) head in
    let room : d + 1 + 1 < length trail.bounds = search rules in
    let step = trail.steps d (omega arith) in
    let ne : d + 1 ≢ d + 1 + 1 = omega arith in
    record {
      short = omega arith;
      steps = steps_more trail.bounds d c.end.result room trail.steps (omega (arith, trail.ends, c.end.ensures)) (omega (arith, trail.ends, trail.starts, step.1, tried.laid.0, c.end.ensures));
      starts = start ∙ trail.ends ∙ sym (get_or-set_other trail.bounds (d + 1 + 1) (d + 1) c.end.result 0 ne);
      ends = sym c.end.ensures ∙ sym (get_or-set_same trail.bounds (d + 1 + 1) c.end.result 0 room);
      known = known_more trail.list d c.args.place (length trail.lexicon.now) (search rules) trail.known c.in_ok-event.ensures.lookup.3.0;
    }

pub returns-clause-means : goal.returns-clause-means
returns-clause-means g c =
    let trail = c.args.self.now in
    let event = c.in_ok-event.event.now in
    let found = c.in_ok-event.ensures.lookup in
    let tried = rw c.new-trial.ensures.saved at c.in_ok-count.ensures.answer in
    λ sound. (reached c.args.need _ c.in_ok-count.count tried).1 ∙ counts_grown g.K.Kind.order trail sound event (picked trail.lexicon.now (c.args.place ∷ [])) (picked_event trail.lexicon.now c.args.place event found.3.0 found.1)

pub returns-clause-sound : goal.returns-clause-sound
returns-clause-sound g c =
    let trail = c.args.self.now in
    let event = c.in_ok-event.event.now in
    let place = c.args.place in
    let found = c.in_ok-event.ensures.lookup in
    let one = picked_event trail.lexicon.now place event found.3.0 found.1 in
    let tried = rw c.new-trial.ensures.saved at c.in_ok-count.ensures in
    let enough = reached c.args.need _ c.in_ok-count.count tried.answer in
    sound_deeper g.K.Kind.order trail _ place c.args.need c.in_ok-count.count event one (search rules) (deepened trail _ place c.args.need c.in_ok-count.count (omega arith) (search rules) found.3.0 (omega arith) (c.keep.ensures ∙ tried.moved) (search rules) refl refl tried.kept) tried.laid.1
