use Rattle.std.proofs.Common.{◌≡◌, ℕ, ◌+◌, [], ◌∷◌, Option, refl, ap, ◌∙◌, arith, rules}
use Rattle.std.specs.Option.{unwrap_or}
use Rattle.trail.specs.declared.level.Head.{Head}
use Rattle.trail.proofs.Growing.{always}
use Rattle.trail.proofs.Sounding.{sound_unmoved, counts_grown}
use Rattle.trail.proofs.trail.Trail.try_event.Goals as goal

-- a head that is put back ends where it ended
put_back : (head old : Head) (n : ℕ) → head ≡ old → old.start + old.count ≡ n → head.start + head.count ≡ n
put_back head old n same ends = ap (λ (h : Head). h.start + h.count) same ∙ ends

pub invariant_of-self-clause-ends : goal.invariant_of-self-clause-ends
invariant_of-self-clause-ends g c =
    put_back _ c.args.self.now.head _ (search rules) (omega arith)

pub returns-clause-means : goal.returns-clause-means
returns-clause-means g c =
    let trail = c.args.self.now in
    let event = c.args.event.now in
    let tried = rw c.new-trial.ensures.saved at c.run-answer.ensures.answer in
    λ sound.
    c.unwrap_or.ensures
    ∙ ap (λ (answer : Option ℕ). unwrap_or answer 0) (tried ∙ always _)
    ∙ counts_grown g.K.Kind.order trail sound event (event ∷ []) refl

pub returns-clause-sound : goal.returns-clause-sound
returns-clause-sound g c =
    sound_unmoved g.K.Kind.order c.args.self.now _ (search rules) (search rules)
