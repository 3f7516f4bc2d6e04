-- What the search finds is what the law lets be handed out.
use Rattle.std.proofs.Common.{◌≡◌, ℕ, ◌≤◌, Bool, List, length, Some, None, sym, ap, ◌∙◌, subst}
use Rattle.law.specs.Answers.{among}
use Rattle.law.specs.Order.{Precedes, Begins, IsPattern, IsFirst}
use Rattle.law.specs.Rules as law
use Rattle.law.specs.Rules.{World, support_of, events_of, standing}
use Rattle.law.specs.Transcripts.{Exchange, latest, skipped}
use Rattle.law.proofs.Patterns.{decides_among}
use Rattle.search.specs.Turns as turns
use Rattle.search.specs.Turns.{Limits}

module _ {O K : Type 0} (W : World O K) (o : O) (h : List (Exchange O K)) (v : List K → Bool) (l : Limits) (f : List ℕ → ℕ) (w : List ℕ → Bool) (p : List ℕ) (k : Bool)
    (longest : l.longest ≡ W.longest o) (places : l.places ≡ length (W.lexicon o)) (support : f ≡ support_of W o) (wants : w ≡ (λ (q : List ℕ). v (events_of W o q)))
    (need : l.need ≡ standing W h) (at : p ≡ latest h) (cut : k ≡ among (latest h) (skipped h)) where
  to_law : (q : List ℕ) → turns.Eligible l f w p k q → law.Eligible W o h v q
  to_law q e =
      record {
        pattern = subst (λ (n : ℕ). IsPattern n (W.longest o) q) places (subst (λ (n : ℕ). IsPattern l.places n q) longest e.pattern);
        after = subst (λ (r : List ℕ). Precedes r q) at e.after;
        free = λ i g. e.free (cut ∙ (decides_among (latest h) (skipped h)).1 i) (subst (λ (r : List ℕ). Begins r q) (sym at) g);
        wanted = ap (λ (g : List ℕ → Bool). g q) (sym wants) ∙ e.wanted;
        reached = subst (λ (n : ℕ). n ≤ support_of W o q) need (subst (λ (g : List ℕ → ℕ). l.need ≤ g q) support e.reached);
      }

  to_search : (q : List ℕ) → law.Eligible W o h v q → turns.Eligible l f w p k q
  to_search q e =
      record {
        pattern = subst (λ (n : ℕ). IsPattern n l.longest q) (sym places) (subst (λ (n : ℕ). IsPattern (length (W.lexicon o)) n q) (sym longest) e.pattern);
        after = subst (λ (r : List ℕ). Precedes r q) (sym at) e.after;
        free = λ t g. e.free ((decides_among (latest h) (skipped h)).0 (sym cut ∙ t)) (subst (λ (r : List ℕ). Begins r q) at g);
        wanted = ap (λ (g : List ℕ → Bool). g q) wants ∙ e.wanted;
        reached = subst (λ (n : ℕ). n ≤ f q) (sym need) (subst (λ (g : List ℕ → ℕ). standing W h ≤ g q) (sym support) e.reached);
      }

  pub gives : (r : List ℕ) (s : ℕ) → turns.Finds l f w p k r (Some s) → IsFirst (law.Eligible W o h v) r × (s ≡ support_of W o r)
  gives r s a = (
    (to_law r a.0.0, λ q b e. a.0.1 q b (to_search q e)),
    a.1 ∙ ap (λ (g : List ℕ → ℕ). g r) support,
  )

  pub ends : (r : List ℕ) → turns.Finds l f w p k r None → (q : List ℕ) → law.Eligible W o h v q → ⊥
  ends r a q e = a.1 q (to_search q e)
