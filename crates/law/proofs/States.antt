-- The state follows from exchange to exchange.
use Rattle.std.proofs.Common.{◌≡◌, ℕ, suc, Bool, true, false, List, ◌∷◌, length, Decides, refl, ap, inl}
use Rattle.law.specs.declared.stage.Stage.TheVariants as stages
use Rattle.law.specs.Transcripts.{Exchange, Opened, Gave, Ended, Marked, Raised, Besides, Among, stage, opening, handed_out, latest, skipped}
use Rattle.law.specs.Rules.{World, standing, Answered}
use Rattle.law.specs.Answers.{among}
use Rattle.law.specs.States.{StatesFollow}
use Rattle.law.proofs.Order.{not_up_to}
use Rattle.law.proofs.Passing.{below_skipped, given_after}
use Rattle.law.proofs.Patterns.{decides_among}

pub false_from : (b : Bool) (P : Type 0) → Decides b P → (P → ⊥) → b ≡ false
false_from true P d n = absurd (n (d.0 refl))
false_from false P d n = refl

module _ {O K : Type 0} (W : World O K) where
  -- what is given was not skipped yet
  uncut : (h : List (Exchange O K)) (w : List K → Bool) (m : ℕ) (p : List ℕ) (s : ℕ) → Answered W (Gave w m p s ∷ h) → among p (skipped h) ≡ false
  uncut h w m p s a =
      false_from (among p (skipped h)) (Among p (skipped h)) (decides_among p (skipped h))
      (λ i. not_up_to (latest h) p (given_after W h w p s a.0.2) (below_skipped W h a.1 p i))

  pub states_follow : StatesFollow W
  states_follow h (Opened o) a = refl
  states_follow h (Gave w m p s) a =
      ap
      (λ (b : Bool).
      record { under = opening h; at = stages.Listing; last = p; cut = b; least = standing W h; count = suc (length (handed_out h)) })
      (uncut h w m p s a)
  states_follow h (Ended w m) a = refl
  states_follow h Marked a =
      ap
      (λ (b : Bool).
      record { under = opening h; at = stage h; last = latest h; cut = b; least = standing W h; count = length (handed_out h) })
      ((decides_among (latest h) (latest h ∷ skipped h)).1 (inl refl))
  states_follow h (Raised t) a = refl
  states_follow h (Besides x) a = refl
