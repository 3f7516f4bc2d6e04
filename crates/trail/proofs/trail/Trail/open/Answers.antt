use Rattle.std.proofs.Common.{◌≡◌, ℕ, length, replicate, sym, ◌∙◌, arith}
use Rattle.std.proofs.lemmas.List.{get_or_append_left, get_or-replicate}
use Rattle.bundle.specs.Tapes.{all_tapes}
use Rattle.bundle.proofs.Cuts.{length_tapes}
use Rattle.trail.proofs.Opening.{roots_laid, roots_all}
use Rattle.trail.proofs.Sounding.{sound_from}
use Rattle.trail.proofs.trail.Trail.open.Goals as goal

pub returns-clause-sound : goal.returns-clause-sound
returns-clause-sound g c =
    let these = all_tapes c.args.tapes in
    let n : ℕ = c.count-count.result in
    let roots = c.loop-tape.roots in
    let l : length roots ≡ n = c.loop-tape.invariant.all in
    sound_from g.K.Kind.order _ (λ k h. absurd (omega arith))
    (roots_laid _ (replicate 9216 0) n (λ k h. rw (get_or_append_left roots _ 0 k (omega arith)) (c.loop-tape.invariant.numbered k (omega arith))) (λ k h. get_or-replicate 9216 k 0 0 (omega arith))
    ∙ roots_all g.K.Kind.order these n (c.count-count.ensures ∙ sym (length_tapes c.args.tapes.events.now c.args.tapes.offsets.now)))
