-- The law leaves a next no other answer than the rules do.
use Rattle.std.proofs.Common.{◌≡◌, ℕ, Bool, ◌≢◌, ◌⊎◌, List, [], ◌∷◌, refl, inl, inr}
use Rattle.law.specs.declared.stage.Stage.TheVariants as stages
use Rattle.law.specs.Order.{Precedes}
use Rattle.law.specs.Transcripts.{Exchange, Gave, Ended, Among, stage, handed_out, latest, skipped, Passed}
use Rattle.law.specs.Rules.{World, standing, Eligible, Answered}
use Rattle.law.specs.Law.{Deserves, Lawful, OnlyTheRulesAreLawful}
use Rattle.law.proofs.Order.{strict, empty_precedes}
use Rattle.law.proofs.Passing.{newest_listed, passed_handed, not_passed, still_free, clean}
use Rattle.law.proofs.Lawful.{deserving_eligible}

module _ {O K : Type 0} (W : World O K) where
  -- a next after h, which has not ended
  module _ (h : List (Exchange O K)) (a : Answered W h) (n : stage h ≢ stages.Ended) (o : O) (w : List K → Bool) where
    unpassed : (q : List ℕ) → Eligible W o h w q → Passed h q → ⊥
    unpassed q d = not_passed W h a n q d.after

    deserved : (q : List ℕ) → Eligible W o h w q → Deserves W o (skipped h) w (standing W h) q
    deserved q d =
        record {
          wanted = d.wanted;
          free = λ r i. still_free W h a q r d.after d.free (λ j. clean W h a (latest h) r j i) i;
          reached = d.reached;
        }

    module _ (m : ℕ) (p : List ℕ) (s : ℕ) (lawful : Lawful W o (Gave w m p s ∷ h)) where
      gave_after : Precedes (latest h) p
      gave_after = go (newest_listed (handed_out h))
        where
          go : (latest h ≡ []) ⊎ Among (latest h) (handed_out h) → Precedes (latest h) p
          go (inl f) = rw f (empty_precedes p (lawful.passed p (inl refl)).0.0)
          go (inr i) = lawful.rising.0 (latest h) i

      gave_eligible : Eligible W o h w p
      gave_eligible =
          let k = (lawful.passed p (inl refl)).0 in
          let d = (lawful.exact p k w (standing W h) (inr (not_passed W h a n p gave_after, inr refl, refl, refl))).0 (inl refl) in
          deserving_eligible W h o w p k gave_after d

      gave_first : (q : List ℕ) → Precedes q p → Eligible W o h w q → ⊥
      gave_first q b d = go ((lawful.exact q d.pattern w (standing W h) (inr (unpassed q d, inl b, refl, refl))).1 (deserved q d))
        where
          go : (q ≡ p) ⊎ Among q (handed_out h) → ⊥
          go (inl e) = strict p (rw e at b)
          go (inr i) = unpassed q d (passed_handed h q i)

    ended_none : (m : ℕ) → Lawful W o (Ended w m ∷ h) → (q : List ℕ) → Eligible W o h w q → ⊥
    ended_none m lawful q d =
        unpassed q d
        (passed_handed h q ((lawful.exact q d.pattern w (standing W h) (inr (unpassed q d, refl, refl))).1 (deserved q d)))

  pub only_the_rules_are_lawful : OnlyTheRulesAreLawful W
  only_the_rules_are_lawful h a n o e w m =
      (λ p s l. ((gave_eligible h a n o w m p s l, gave_first h a n o w m p s l), l.supports p s (inl refl)), ended_none h a n o w m)
