use Rattle.std.proofs.Common.{◌≡◌, ◌+◌, ◌≤◌, List, length, take, None, sym, refl, ap, ◌∙◌, arith}
use Rattle.std.proofs.lemmas.List.{with_items_is, length-take-le}
use Rattle.std.proofs.lemmas.Result.{err_from_is_err_and}
use Rattle.bundle.specs.Bundles.{offsets_in, events_of}
use Rattle.matching.specs.Rows.{bundle_refusal}
use Rattle.matching.specs.Learning.{learned, learn_refusal}
use Rattle.reply.proofs.Filed.{Read, not_read, was_read, not_learned, was_learned, read_accepted, reading_fails, learning_fails, rows_outcome}
use Rattle.reply.proofs.reading.append_file.Goals as goal
use Rattle.reply.proofs.reading.append_file.Given.{Over}
use Rattle.reply.proofs.reading.append_file.Goals.{After-deref, After-deref-2, After-deref-3}

-- what was read, and the events of it that are lent on
module _ (g : Over) (c : After-deref g) where
  read : Read g.K.Kind.NUMBER g.K.Kind.WIDTH g.K.Kind.stands c.args.file.now c.read_bundle.new.offsets c.read_bundle.new.events c.in_ok-tapes.tapes c.in_ok-tapes.count
  read =
      was_read g.K.Kind.NUMBER g.K.Kind.WIDTH g.K.Kind.stands c.args.file.now c.deref_mut.result.now c.deref_mut-2.result.now (omega (arith, c.in_ok-offsets.ensures.len)) (omega (arith, c.in_ok-events.ensures.len)) c.in_ok-tapes.tapes c.in_ok-tapes.count (sym c.in_ok-tapes.was ∙ c.read_bundle.ensures.answer) c.read_bundle.new.offsets c.read_bundle.new.events (omega arith) (omega arith) c.read_bundle.ensures.offsets_after c.read_bundle.ensures.events_after

  lent : c.deref.result.now ≡ c.read_bundle.new.events
  lent = c.deref.ensures.value ∙ with_items_is c.in_ok-events.events c.read_bundle.new.events (omega arith)

  events : take c.in_ok-tapes.count c.deref.result.now ≡ events_of g.K.Kind.WIDTH g.K.Kind.stands c.args.file.now
  events = ap (take c.in_ok-tapes.count) lent ∙ read.events

-- the offsets that are lent on
module _ (g : Over) (c : After-deref-2 g) where
  lent_offsets : c.deref-2.result.now ≡ c.read_bundle.new.offsets
  lent_offsets = c.deref-2.ensures.value ∙ with_items_is c.in_ok-offsets.offsets c.read_bundle.new.offsets (omega arith)

-- the lexicon that was learned, and the events of it that are lent on
module _ (g : Over) (c : After-deref-3 g) (events_are : take c.in_ok-tapes.count c.deref.result.now ≡ events_of g.K.Kind.WIDTH g.K.Kind.stands c.args.file.now) where
  lent_lexicon : c.deref-3.result.now ≡ c.learn.new.row
  lent_lexicon = c.deref-3.ensures.value ∙ with_items_is c.in_ok-lexicon.lexicon c.learn.new.row (omega arith)

  words :
      (learn_refusal g.K.Kind.order (events_of g.K.Kind.WIDTH g.K.Kind.stands c.args.file.now) 1024 ≡ None)
      × (take c.in_ok-words.words c.learn.new.row ≡ learned g.K.Kind.order (events_of g.K.Kind.WIDTH g.K.Kind.stands c.args.file.now))
      × (c.in_ok-words.words ≤ length c.learn.new.row)
  words =
      was_learned g.K.Kind.order (take c.in_ok-tapes.count c.deref.result.now) (events_of g.K.Kind.WIDTH g.K.Kind.stands c.args.file.now) events_are (length c.deref_mut-3.result.now) (omega (arith, c.in_ok-lexicon.ensures.len)) c.in_ok-words.words (sym c.in_ok-words.was ∙ c.learn.ensures.answer) c.deref_mut-3.result.now c.learn.new.row c.learn.ensures.after

pub returns-in_err-tapes : goal.returns-in_err-tapes
returns-in_err-tapes g c =
    let k = g.K.Kind in
    let f = not_read k.NUMBER k.WIDTH k.stands c.args.file.now c.deref_mut.result.now c.deref_mut-2.result.now (omega (arith, c.in_ok-offsets.ensures.len)) (omega (arith, c.in_ok-events.ensures.len)) _ (sym c.in_err-tapes.was ∙ c.read_bundle.ensures.answer) in
    let p = err_from_is_err_and c.from_residual-in_err-tapes.result c.from_residual-in_err-tapes.ensures.1 in
    rw (p.1, p.2) (reading_fails k.NUMBER k.WIDTH k.stands c.args.file.now g.C.Contents.listed k.order c.args.query.now _ f, refl)

pub slice_bounds-events-end : goal.slice_bounds-events-end
slice_bounds-events-end g c =
    let n : c.in_ok-tapes.count ≤ length c.deref.result.now = rw (lent g c) (read g c).event_room in
    sym (length-take-le c.in_ok-tapes.count c.deref.result.now n)

pub returns-in_err-words : goal.returns-in_err-words
returns-in_err-words g c =
    let k = g.K.Kind in
    let a = (goal.at.returns-in_err-words g c).After-deref in
    let r = not_learned k.order (take c.in_ok-tapes.count c.deref.result.now) (events_of k.WIDTH k.stands c.args.file.now) (events g a) (length c.deref_mut-3.result.now) (omega (arith, c.in_ok-lexicon.ensures.len)) _ (sym c.in_err-words.was ∙ c.learn.ensures.answer) in
    let p = err_from_is_err_and c.from_residual-in_err-words.result c.from_residual-in_err-words.ensures.1 in
    rw (p.1, p.2) (learning_fails k.NUMBER k.WIDTH k.stands c.args.file.now g.C.Contents.listed k.order c.args.query.now _ (read g a).none r, refl)

pub overflow_add-rows : goal.overflow_add-rows
overflow_add-rows g c =
    let r = read g (goal.at.overflow_add-rows g c).After-deref in omega (arith, r.few)

pub slice_bounds-rows-end : goal.slice_bounds-rows-end
slice_bounds-rows-end g c =
    let r = read g (goal.at.slice_bounds-rows-end g c).After-deref in
    let n : c.in_ok-tapes.tapes + 1 ≤ length c.deref-2.result.now = rw (lent_offsets g c) r.tape_room in
    sym (length-take-le (c.in_ok-tapes.tapes + 1) c.deref-2.result.now n)

pub slice_bounds-rows-end-2 : goal.slice_bounds-rows-end-2
slice_bounds-rows-end-2 g c =
    let e = events g (goal.at.slice_bounds-rows-end-2 g c).After-deref in
    let n : c.in_ok-words.words ≤ length c.deref-3.result.now = rw (lent_lexicon g c e) (words g c e).2 in
    sym (length-take-le c.in_ok-words.words c.deref-3.result.now n)

pub invariant_of-rows : goal.invariant_of-rows
invariant_of-rows g c =
    let k = g.K.Kind in
    let a = (goal.at.invariant_of-rows g c).After-deref in
    let r = read g a in
    let os : take (c.in_ok-tapes.tapes + 1) c.deref-2.result.now ≡ offsets_in c.args.file.now = ap (take (c.in_ok-tapes.tapes + 1)) (lent_offsets g (goal.at.invariant_of-rows g c).After-deref-2) ∙ r.offsets in
    record {
      accepted =
          ap (λ (l : List _). bundle_refusal (length l) (take (c.in_ok-tapes.tapes + 1) c.deref-2.result.now)) (events g a)
          ∙ ap (bundle_refusal (length (events_of k.WIDTH k.stands c.args.file.now))) os
          ∙ read_accepted k.NUMBER k.WIDTH k.stands c.args.file.now r.none;
    }

pub returns : goal.returns
returns g c =
    let k = g.K.Kind in
    let a = (goal.at.returns g c).After-deref in
    let d = (goal.at.returns g c).After-deref-3 in
    let r = read g a in
    let w = words g d (events g a) in
    rows_outcome k.NUMBER k.WIDTH k.stands c.args.file.now g.C.Contents.listed k.order c.args.query.now k.label r.none w.0
    (take (c.in_ok-tapes.tapes + 1) c.deref-2.result.now) (take c.in_ok-tapes.count c.deref.result.now) (take c.in_ok-words.words c.deref-3.result.now)
    (ap (take (c.in_ok-tapes.tapes + 1)) (lent_offsets g (goal.at.returns g c).After-deref-2) ∙ r.offsets)
    (events g a)
    (ap (take c.in_ok-words.words) (lent_lexicon g d (events g a)) ∙ w.1)
    c.args.page.now c.append.new.page c.append.result c.append.ensures
