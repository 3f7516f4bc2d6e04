-- What was passed, skipped and handed out, where the rules are kept: all of it comes up to the latest pattern while the list goes on.
use Rattle.std.proofs.Common.{◌≡◌, ℕ, ◌≤◌, Bool, ◌≢◌, ◌⊎◌, List, [], ◌∷◌, length, None, sym, refl, ◌∙◌, subst, inl, inr}
use Rattle.event.specs.declared.refusal.Refusal.TheVariants.{Nothing}
use Rattle.law.specs.declared.stage.Stage.{Stage}
use Rattle.law.specs.declared.stage.Stage.TheVariants as stages
use Rattle.law.specs.declared.stage.Ask.TheVariants as asks
use Rattle.law.specs.Order.{Precedes, UpTo, Begins, IsFirst}
use Rattle.law.specs.Transcripts.{Exchange, Opened, Gave, Ended, Marked, Raised, Besides, Among, newest, stage, opening, handed_out, latest, skipped, Passed}
use Rattle.law.specs.Rules.{World, Held, stage_refusal, support_of, PassedAt, Eligible, Answered}
use Rattle.law.proofs.Held.{some_not_none, held_any, Over}
use Rattle.law.proofs.Order.{not_up_to, up_to_carried, begins_precedes, between, none_up_to_empty}

skip_goes_on : (s : Stage) → stage_refusal s asks.Skip ≡ None → s ≢ stages.Ended
skip_goes_on s r e = some_not_none Nothing (subst (λ (z : Stage). stage_refusal z asks.Skip ≡ None) e r)

pub newest_listed : (ps : List (List ℕ)) → (newest ps ≡ []) ⊎ Among (newest ps) ps
newest_listed [] = inl refl
newest_listed (p ∷ ps) = inr (inl refl)

module _ {O K : Type 0} where
  -- what comes up to the latest pattern was passed
  pub passed_below : (h : List (Exchange O K)) (q : List ℕ) → 1 ≤ length q → UpTo q (latest h) → Passed h q
  passed_below [] q l u = none_up_to_empty q l u
  passed_below (Opened o ∷ h) q l u = none_up_to_empty q l u
  passed_below (Gave w m p s ∷ h) q l u = inl u
  passed_below (Ended w m ∷ h) q l u = tt
  passed_below (Marked ∷ h) q l u = passed_below h q l u
  passed_below (Raised t ∷ h) q l u = passed_below h q l u
  passed_below (Besides a ∷ h) q l u = passed_below h q l u

  -- what was handed out was passed
  pub passed_handed : (h : List (Exchange O K)) (q : List ℕ) → Among q (handed_out h) → Passed h q
  passed_handed [] q i = i
  passed_handed (Opened o ∷ h) q i = i
  passed_handed (Gave w m p s ∷ h) q (inl e) = inl (inr e)
  passed_handed (Gave w m p s ∷ h) q (inr i) = inr (passed_handed h q i)
  passed_handed (Ended w m ∷ h) q i = tt
  passed_handed (Marked ∷ h) q i = passed_handed h q i
  passed_handed (Raised t ∷ h) q i = passed_handed h q i
  passed_handed (Besides a ∷ h) q i = passed_handed h q i

  -- once ended, all was passed
  pub passed_all : (h : List (Exchange O K)) → stage h ≡ stages.Ended → (q : List ℕ) → Passed h q
  passed_all [] e q = subst Over (sym e) tt
  passed_all (Opened o ∷ h) e q = subst Over (sym e) tt
  passed_all (Gave w m p s ∷ h) e q = absurd (subst Over (sym e) tt)
  passed_all (Ended w m ∷ h) e q = tt
  passed_all (Marked ∷ h) e q = passed_all h e q
  passed_all (Raised t ∷ h) e q = passed_all h e q
  passed_all (Besides a ∷ h) e q = passed_all h e q

module _ {O K : Type 0} (W : World O K) where
  -- what a next gives
  abbrev pub Given : List (Exchange O K) → (List K → Bool) → List ℕ → ℕ → Type 0
  Given h w p s = Held (opening h) (λ o. IsFirst (Eligible W o h w) p × (s ≡ support_of W o p))

  pub given_after : (h : List (Exchange O K)) (w : List K → Bool) (p : List ℕ) (s : ℕ) → Given h w p s → Precedes (latest h) p
  given_after h w p s g = held_any (opening h) _ (Precedes (latest h) p) (λ o x. x.0.0.after) g

  given_free : (h : List (Exchange O K)) (w : List K → Bool) (p : List ℕ) (s : ℕ) → Given h w p s → Among (latest h) (skipped h) → Begins (latest h) p → ⊥
  given_free h w p s g i b = held_any (opening h) _ ⊥ (λ o x. x.0.0.free i b) g

  -- as long as the list goes on, what was passed comes up to the latest pattern
  pub below_passed : (h : List (Exchange O K)) → Answered W h → stage h ≢ stages.Ended → (q : List ℕ) → Passed h q → UpTo q (latest h)
  below_passed [] a n q i = absurd i
  below_passed (Opened o ∷ h) a n q i = absurd i
  below_passed (Gave w m p s ∷ h) a n q (inl u) = u
  below_passed (Gave w m p s ∷ h) a n q (inr i) =
      inl (up_to_carried q (latest h) p (below_passed h a.1 a.0.1 q i) (given_after h w p s a.0.2))
  below_passed (Ended w m ∷ h) a n q i = absurd (n refl)
  below_passed (Marked ∷ h) a n q i = below_passed h a.1 n q i
  below_passed (Raised t ∷ h) a n q i = below_passed h a.1 n q i
  below_passed (Besides x ∷ h) a n q i = below_passed h a.1 n q i

  -- what comes after the latest pattern was not passed then
  pub not_passed : (h : List (Exchange O K)) → Answered W h → stage h ≢ stages.Ended → (q : List ℕ) → Precedes (latest h) q → Passed h q → ⊥
  not_passed h a n q b i = not_up_to (latest h) q b (below_passed h a n q i)

  -- what was skipped comes up to the latest pattern
  pub below_skipped : (h : List (Exchange O K)) → Answered W h → (r : List ℕ) → Among r (skipped h) → UpTo r (latest h)
  below_skipped [] a r i = absurd i
  below_skipped (Opened o ∷ h) a r i = absurd i
  below_skipped (Gave w m p s ∷ h) a r i =
      inl (up_to_carried r (latest h) p (below_skipped h a.1 r i) (given_after h w p s a.0.2))
  below_skipped (Ended w m ∷ h) a r i = below_skipped h a.1 r i
  below_skipped (Marked ∷ h) a r (inl e) = inr e
  below_skipped (Marked ∷ h) a r (inr i) = below_skipped h a.1 r i
  below_skipped (Raised t ∷ h) a r i = below_skipped h a.1 r i
  below_skipped (Besides x ∷ h) a r i = below_skipped h a.1 r i

  -- what was passed before a skip is no extension of what was skipped then
  pub skip_free : (h : List (Exchange O K)) → Answered W h → stage_refusal (stage h) asks.Skip ≡ None → (q : List ℕ) → Passed h q → (r : List ℕ) → r ≡ latest h → Begins r q → ⊥
  skip_free h a k q i r e b =
      not_up_to r q (begins_precedes r q b) (rw e (below_passed h a (skip_goes_on (stage h) k) q i))

  -- where no skipped pattern begins the latest, and the latest does not begin p if it was skipped, none begins p
  pub still_free : (h : List (Exchange O K)) → Answered W h → (p r : List ℕ) → Precedes (latest h) p → (Among (latest h) (skipped h) → Begins (latest h) p → ⊥) → (Among (latest h) (handed_out h) → Begins r (latest h) → ⊥) → Among r (skipped h) → Begins r p → ⊥
  still_free h a p r after free clean k b = go (below_skipped h a r k) (newest_listed (handed_out h))
    where
      go : UpTo r (latest h) → (latest h ≡ []) ⊎ Among (latest h) (handed_out h) → ⊥
      go (inr f) c = free (rw f at k) (rw f at b)
      go (inl l) (inl f) = rw f at l
      go (inl l) (inr i) = clean i (between r (latest h) p b l after)

  -- no skipped pattern begins one that was handed out
  pub clean : (h : List (Exchange O K)) → Answered W h → (q r : List ℕ) → Among q (handed_out h) → Among r (skipped h) → Begins r q → ⊥
  clean [] a q r i k b = i
  clean (Opened o ∷ h) a q r i k b = i
  clean (Gave w m p s ∷ h) a q r (inr i) k b = clean h a.1 q r i k b
  clean (Gave w m p s ∷ h) a q r (inl e) k b =
      still_free h a.1 p r (given_after h w p s a.0.2) (given_free h w p s a.0.2) (λ i. clean h a.1 (latest h) r i k) k
      (subst (Begins r) e b)
  clean (Ended w m ∷ h) a q r i k b = clean h a.1 q r i k b
  clean (Marked ∷ h) a q r i (inl e) b = skip_free h a.1 a.0 q (passed_handed h q i) r e b
  clean (Marked ∷ h) a q r i (inr k) b = clean h a.1 q r i k b
  clean (Raised t ∷ h) a q r i k b = clean h a.1 q r i k b
  clean (Besides x ∷ h) a q r i k b = clean h a.1 q r i k b

  pub passed_then : (w : List K → Bool) (t : ℕ) (h : List (Exchange O K)) (q : List ℕ) → PassedAt W w t h q → Passed h q
  passed_then w t [] q x = x
  passed_then w t (Opened o ∷ h) q x = x
  passed_then w t (Gave v m p s ∷ h) q (inl x) = inr (passed_then w t h q x)
  passed_then w t (Gave v m p s ∷ h) q (inr x) = inl x.1
  passed_then w t (Ended v m ∷ h) q x = tt
  passed_then w t (Marked ∷ h) q x = passed_then w t h q x
  passed_then w t (Raised u ∷ h) q x = passed_then w t h q x
  passed_then w t (Besides a ∷ h) q x = passed_then w t h q x

  -- what is passed is passed first once: by one filter, at one threshold
  pub passed_once : (w v : List K → Bool) (t u : ℕ) (h : List (Exchange O K)) (q : List ℕ) → PassedAt W w t h q → PassedAt W v u h q → (w ≡ v) × (t ≡ u)
  passed_once w v t u [] q x y = absurd x
  passed_once w v t u (Opened o ∷ h) q x y = absurd x
  passed_once w v t u (Gave z m p s ∷ h) q (inl x) (inl y) = passed_once w v t u h q x y
  passed_once w v t u (Gave z m p s ∷ h) q (inl x) (inr y) = absurd (y.0 (passed_then w t h q x))
  passed_once w v t u (Gave z m p s ∷ h) q (inr x) (inl y) = absurd (x.0 (passed_then v u h q y))
  passed_once w v t u (Gave z m p s ∷ h) q (inr x) (inr y) = (x.2 ∙ sym y.2, x.3 ∙ sym y.3)
  passed_once w v t u (Ended z m ∷ h) q (inl x) (inl y) = passed_once w v t u h q x y
  passed_once w v t u (Ended z m ∷ h) q (inl x) (inr y) = absurd (y.0 (passed_then w t h q x))
  passed_once w v t u (Ended z m ∷ h) q (inr x) (inl y) = absurd (x.0 (passed_then v u h q y))
  passed_once w v t u (Ended z m ∷ h) q (inr x) (inr y) = (x.1 ∙ sym y.1, x.2 ∙ sym y.2)
  passed_once w v t u (Marked ∷ h) q x y = passed_once w v t u h q x y
  passed_once w v t u (Raised r ∷ h) q x y = passed_once w v t u h q x y
  passed_once w v t u (Besides a ∷ h) q x y = passed_once w v t u h q x y
