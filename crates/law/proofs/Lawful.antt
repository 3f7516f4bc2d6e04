-- Transcripts that keep the rules are lawful, by induction.
use Rattle.std.proofs.Common.{◌≡◌, ℕ, Bool, ◌≢◌, ◌⊎◌, ◌↔◌, List, [], ◌∷◌, ◌++◌, Some, sym, refl, ap, subst, inl, inr}
use Rattle.law.specs.declared.stage.Stage.TheVariants as stages
use Rattle.law.specs.Order.{Precedes, UpTo, Begins, IsFirst}
use Rattle.law.specs.Transcripts.{Exchange, Opened, Gave, Ended, Marked, Raised, Besides, Among, Descending, stage, opening, returned, handed_out, latest, skipped, Passed}
use Rattle.law.specs.Rules.{World, Held, support_of, standing, PatternOf, PassedAt, Eligible, Answered}
use Rattle.law.specs.Law.{Deserves, Lawful, EveryRunIsLawful}
use Rattle.law.proofs.Held.{held, over_or_not}
use Rattle.law.proofs.Order.{strict, up_to_carried, compared}
use Rattle.law.proofs.Passing.{passed_below, passed_handed, passed_all, given_after, below_passed, not_passed, skip_free, clean, passed_then, passed_once}

module _ {O K : Type 0} (W : World O K) where
  -- q was handed out exactly if it deserved that, by a filter and at a threshold
  abbrev Exactly : O → List (Exchange O K) → List ℕ → (List K → Bool) → ℕ → Type 0
  Exactly o h q w t = Among q (handed_out h) ↔ Deserves W o (skipped h) w t q

  -- by those with which it was first passed
  abbrev Exact : O → List (Exchange O K) → List ℕ → Type 0
  Exact o h q = (w : List K → Bool) × (t : ℕ) × PassedAt W w t h q × Exactly o h q w t

  -- a pattern that comes after the latest and deserves to be handed out is eligible
  pub deserving_eligible : (h : List (Exchange O K)) (o : O) (w : List K → Bool) (q : List ℕ) → PatternOf W o q → Precedes (latest h) q → Deserves W o (skipped h) w (standing W h) q → Eligible W o h w q
  deserving_eligible h o w q k b d =
      record { pattern = k; after = b; free = λ i. d.free (latest h) i; wanted = d.wanted; reached = d.reached }

  -- a next that gives p hands out exactly what deserves it, of the patterns that it passes
  exact_gave : (h : List (Exchange O K)) → Answered W h → stage h ≢ stages.Ended → (o : O) (w : List K → Bool) (p : List ℕ) → IsFirst (Eligible W o h w) p → (m s : ℕ) → Answered W (Gave w m p s ∷ h) → (q : List ℕ) → PatternOf W o q → UpTo q p → Precedes (latest h) q → Exact o (Gave w m p s ∷ h) q
  exact_gave h a n o w p f m s a' q k u b = (w, standing W h, inr (fresh, u, refl, refl), (there, back u))
    where
      fresh : Passed h q → ⊥
      fresh = not_passed W h a n q b

      there : (q ≡ p) ⊎ Among q (handed_out h) → Deserves W o (skipped h) w (standing W h) q
      there (inr i) = absurd (fresh (passed_handed h q i))
      there (inl e) =
          record {
            wanted = rw e f.0.wanted;
            free = λ r j c. clean W (Gave w m p s ∷ h) a' q r (inl e) j c;
            reached = rw e f.0.reached;
          }

      back : UpTo q p → Deserves W o (skipped h) w (standing W h) q → (q ≡ p) ⊎ Among q (handed_out h)
      back (inr e) d = inl e
      back (inl l) d = absurd (f.1 q l (deserving_eligible h o w q k b d))

  exact_ended : (h : List (Exchange O K)) → Answered W h → stage h ≢ stages.Ended → (o : O) (w : List K → Bool) → ((q : List ℕ) → Eligible W o h w q → ⊥) → (m : ℕ) (q : List ℕ) → PatternOf W o q → Precedes (latest h) q → Exact o (Ended w m ∷ h) q
  exact_ended h a n o w f m q k b = (
    w,
    standing W h,
    inr (fresh, refl, refl),
    (λ i. absurd (fresh (passed_handed h q i)), λ d. absurd (f q (deserving_eligible h o w q k b d))),
  )
    where
      fresh : Passed h q → ⊥
      fresh = not_passed W h a n q b

  -- a skip changes nothing for what was passed before it
  exact_marked : (h : List (Exchange O K)) → Answered W (Marked ∷ h) → (o : O) (q : List ℕ) → Passed h q → (w : List K → Bool) (t : ℕ) → Exactly o h q w t → Exactly o (Marked ∷ h) q w t
  exact_marked h a o q i w t x =
      (λ y. there (x.0 y), λ d. x.1 (record { wanted = d.wanted; free = λ r j. d.free r (inr j); reached = d.reached }))
    where
      free : Deserves W o (skipped h) w t q → (r : List ℕ) → Among r (latest h ∷ skipped h) → Begins r q → ⊥
      free d r (inl f) b = skip_free W h a.1 a.0 q i r f b
      free d r (inr j) b = d.free r j b

      there : Deserves W o (skipped h) w t q → Deserves W o (latest h ∷ skipped h) w t q
      there d = record { wanted = d.wanted; free = free d; reached = d.reached }

  exact : (h : List (Exchange O K)) → Answered W h → (o : O) → opening h ≡ Some o → (q : List ℕ) → PatternOf W o q → Passed h q → Exact o h q
  exact [] a o e q k i = absurd i
  exact (Opened o' ∷ h) a o e q k i = absurd i
  exact (Gave w m p s ∷ h) a o e q k i = go i (compared q (latest h)) (exact h a.1 o e q k)
    where
      old : Passed h q → Exact o h q → Exact o (Gave w m p s ∷ h) q
      old j x = (x.0, x.1, inl x.2, (there, λ d. inr (x.3.1 d)))
        where
          there : (q ≡ p) ⊎ Among q (handed_out h) → Deserves W o (skipped h) x.0 x.1 q
          there (inr y) = x.3.0 y
          there (inl f) =
              absurd (strict p (up_to_carried p (latest h) p (rw f at (below_passed W h a.1 a.0.1 q j)) (given_after W h w p s a.0.2)))

      go : UpTo q p ⊎ Passed h q → UpTo q (latest h) ⊎ Precedes (latest h) q → (Passed h q → Exact o h q) → Exact o (Gave w m p s ∷ h) q
      go (inr j) c ih = old j (ih j)
      go (inl u) (inl v) ih = let j : Passed h q = passed_below h q k.0 v in old j (ih j)
      go (inl u) (inr b) ih = exact_gave h a.1 a.0.1 o w p (held (opening h) _ o e a.0.2).0 m s a q k u b
  exact (Ended w m ∷ h) a o e q k i = go (over_or_not (stage h)) a.0.1 (compared q (latest h)) (exact h a.1 o e q k)
    where
      old : Exact o h q → Exact o (Ended w m ∷ h) q
      old x = (x.0, x.1, inl x.2, x.3)

      go : (stage h ≡ stages.Ended) ⊎ (stage h ≢ stages.Ended) → (stage h ≡ stages.Ended) ⊎ Held (opening h) (λ o. (q : List ℕ) → Eligible W o h w q → ⊥) → UpTo q (latest h) ⊎ Precedes (latest h) q → (Passed h q → Exact o h q) → Exact o (Ended w m ∷ h) q
      go (inl y) f c ih = old (ih (passed_all h y q))
      go (inr n) (inl y) c ih = absurd (n y)
      go (inr n) (inr f) (inl v) ih = old (ih (passed_below h q k.0 v))
      go (inr n) (inr f) (inr b) ih = exact_ended h a.1 n o w (held (opening h) _ o e f) m q k b
  exact (Marked ∷ h) a o e q k i =
      let x = exact h a.1 o e q k i in
      (x.0, x.1, x.2, exact_marked h a o q i x.0 x.1 x.3)
  exact (Raised t ∷ h) a o e q k i = exact h a.1 o e q k i
  exact (Besides x ∷ h) a o e q k i = exact h a.1 o e q k i

  rising : (h : List (Exchange O K)) → Answered W h → Descending (handed_out h)
  rising [] a = tt
  rising (Opened o ∷ h) a = tt
  rising (Gave w m p s ∷ h) a = (
    λ q i. up_to_carried q (latest h) p (below_passed W h a.1 a.0.1 q (passed_handed h q i)) (given_after W h w p s a.0.2),
    rising h a.1,
  )
  rising (Ended w m ∷ h) a = rising h a.1
  rising (Marked ∷ h) a = rising h a.1
  rising (Raised t ∷ h) a = rising h a.1
  rising (Besides x ∷ h) a = rising h a.1

  supports : (h : List (Exchange O K)) → Answered W h → (o : O) → opening h ≡ Some o → (p : List ℕ) (s : ℕ) → Among (p, s) (returned h) → s ≡ support_of W o p
  supports [] a o e p s i = absurd i
  supports (Opened o' ∷ h) a o e p s i = absurd i
  supports (Gave w m p' s' ∷ h) a o e p s (inl f) =
      let g : s' ≡ support_of W o p' = (held (opening h) _ o e a.0.2).1 in
      let f0 : p ≡ p' = ap (λ x. x.0) f in
      let f1 : s ≡ s' = ap (λ x. x.1) f in
      cc
  supports (Gave w m p' s' ∷ h) a o e p s (inr i) = supports h a.1 o e p s i
  supports (Ended w m ∷ h) a o e p s i = supports h a.1 o e p s i
  supports (Marked ∷ h) a o e p s i = supports h a.1 o e p s i
  supports (Raised t ∷ h) a o e p s i = supports h a.1 o e p s i
  supports (Besides x ∷ h) a o e p s i = supports h a.1 o e p s i

  patterns : (h : List (Exchange O K)) → Answered W h → (o : O) → opening h ≡ Some o → (q : List ℕ) → Among q (handed_out h) → PatternOf W o q
  patterns [] a o e q i = absurd i
  patterns (Opened o' ∷ h) a o e q i = absurd i
  patterns (Gave w m p s ∷ h) a o e q (inl f) =
      subst (PatternOf W o) (sym f) (held (opening h) _ o e a.0.2).0.0.pattern
  patterns (Gave w m p s ∷ h) a o e q (inr i) = patterns h a.1 o e q i
  patterns (Ended w m ∷ h) a o e q i = patterns h a.1 o e q i
  patterns (Marked ∷ h) a o e q i = patterns h a.1 o e q i
  patterns (Raised t ∷ h) a o e q i = patterns h a.1 o e q i
  patterns (Besides x ∷ h) a o e q i = patterns h a.1 o e q i

  exact_at : (h : List (Exchange O K)) → Answered W h → (o : O) → opening h ≡ Some o → (q : List ℕ) → PatternOf W o q → (w : List K → Bool) (t : ℕ) → PassedAt W w t h q → Exactly o h q w t
  exact_at h a o e q k w t x =
      let y = exact h a o e q k (passed_then W w t h q x) in
      let z = passed_once W y.0 w y.1 t h q y.2 x in
      subst (λ (u : ℕ). Exactly o h q w u) z.1 (subst (λ (v : List K → Bool). Exactly o h q v y.1) z.0 y.3)

  earlier : (later h : List (Exchange O K)) → Answered W (later ++ h) → Answered W h
  earlier [] h a = a
  earlier (x ∷ later) h a = earlier later h a.1

  lawful : (h : List (Exchange O K)) → Answered W h → (o : O) → opening h ≡ Some o → Lawful W o h
  lawful h a o e =
      record {
        rising = rising h a;
        supports = supports h a o e;
        passed = λ q i. (patterns h a o e q i, passed_handed h q i);
        timed = λ q k i. let x = exact h a o e q k i in (x.0, (x.1, x.2));
        exact = exact_at h a o e;
        whole = λ y q k. passed_all h y q;
      }

  pub every_run_is_lawful : EveryRunIsLawful W
  every_run_is_lawful later h a = lawful h (earlier later h a)
