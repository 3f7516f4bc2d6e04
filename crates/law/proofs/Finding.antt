-- The pattern that is computed is the first eligible one.
use Rattle.std.proofs.Common.{◌≡◌, ℕ, ◌≤◌, Bool, true, ◌⊎◌, List, length, Some, None, Decides, Option, refl, inl, inr}
use Rattle.std.proofs.lemmas.Bool.Decides.{Decides-and, Decides-not}
use Rattle.law.specs.Order.{Precedes, Begins, IsFirst}
use Rattle.law.specs.Transcripts.{Exchange, Among, latest, skipped}
use Rattle.law.specs.Rules.{World, events_of, support_of, standing, PatternOf, Eligible}
use Rattle.law.specs.Answers.{patterns, eligible, next_of}
use Rattle.law.proofs.Order.{total}
use Rattle.law.proofs.Patterns.{decides_leb, decides_precedes, decides_begins, decides_among}
use Rattle.law.proofs.Listed.{sound, complete, ascending, first_none, first_some}

-- the first is one
first_unique : (P : List ℕ → Type 0) (p q : List ℕ) → IsFirst P p → IsFirst P q → p ≡ q
first_unique P p q f g = go (total p q)
  where
    go : Precedes p q ⊎ ((p ≡ q) ⊎ Precedes q p) → p ≡ q
    go (inl b) = absurd (g.1 p b f.0)
    go (inr (inl e)) = e
    go (inr (inr b)) = absurd (f.1 q b g.0)

module _ {O K : Type 0} (W : World O K) (o : O) (h : List (Exchange O K)) (w : List K → Bool) where
  tested : (q : List ℕ) → Decides (eligible W o h w q) (Precedes (latest h) q × ((Among (latest h) (skipped h) × Begins (latest h) q → ⊥) × ((w (events_of W o q) ≡ true) × (standing W h ≤ support_of W o q))))
  tested q =
      Decides-and _ _ (decides_precedes (latest h) q)
      (Decides-and _ _
      (Decides-not _ (Decides-and _ _ (decides_among (latest h) (skipped h)) (decides_begins (latest h) q)))
      (Decides-and _ _ (λ e. e, λ e. e) (decides_leb (standing W h) (support_of W o q))))

  pub to_eligible : (q : List ℕ) → PatternOf W o q → eligible W o h w q ≡ true → Eligible W o h w q
  to_eligible q k e =
      let x = (tested q).0 e in
      record { pattern = k; after = x.0; free = λ i b. x.1.0 (i, b); wanted = x.1.1.0; reached = x.1.1.1 }

  pub from_eligible : (q : List ℕ) → Eligible W o h w q → eligible W o h w q ≡ true
  from_eligible q d = (tested q).1 (d.after, (λ x. d.free x.0 x.1, (d.wanted, d.reached)))

  pub next_first : (p : List ℕ) → next_of W o h w ≡ Some p → IsFirst (Eligible W o h w) p
  next_first p e =
      let n = length (W.lexicon o) in
      let l = W.longest o in
      let x = first_some (eligible W o h w) (patterns n l) p (ascending n l) e in
      (to_eligible p (sound n l p x.0) x.1, λ q b d. x.2 q (complete n l q d.pattern) b (from_eligible q d))

  pub next_none : next_of W o h w ≡ None → (q : List ℕ) → Eligible W o h w q → ⊥
  next_none e q d =
      first_none (eligible W o h w) (patterns (length (W.lexicon o)) (W.longest o)) e q
      (complete (length (W.lexicon o)) (W.longest o) q d.pattern) (from_eligible q d)

  pub first_next : (p : List ℕ) → IsFirst (Eligible W o h w) p → next_of W o h w ≡ Some p
  first_next p f = go (next_of W o h w) refl
    where
      go : (x : Option (List ℕ)) → next_of W o h w ≡ x → next_of W o h w ≡ Some p
      go None e = absurd (next_none e p f.0)
      go (Some q) e = let g = first_unique (Eligible W o h w) q p (next_first q e) f in cc

  pub none_next : ((q : List ℕ) → Eligible W o h w q → ⊥) → next_of W o h w ≡ None
  none_next n = go (next_of W o h w) refl
    where
      go : (x : Option (List ℕ)) → next_of W o h w ≡ x → next_of W o h w ≡ None
      go None e = e
      go (Some q) e = absurd (n q (next_first q e).0)
