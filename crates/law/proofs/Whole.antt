-- A list that is read to END is whole.
use Rattle.std.proofs.Common.{◌≡◌, ℕ, ◌<◌, ◌≤◌, Bool, true, ◌&&◌, leb, ◌↔◌, List, [], ◌∷◌, map, reverse, length, Some, Decides, sym, refl, ap, ◌∙◌, subst, inl, inr}
use Rattle.std.proofs.lemmas.Bool.Decides.{Decides-and}
use Rattle.law.specs.declared.stage.Stage.TheVariants as stages
use Rattle.law.specs.Order.{Precedes, IsPattern}
use Rattle.law.specs.Transcripts.{Exchange, Opened, Gave, Ended, Marked, Raised, Besides, Among, stage, opening, returned, handed_out, skipped}
use Rattle.law.specs.Rules.{World, events_of, support_of, standing, PatternOf, PassedAt}
use Rattle.law.specs.Answers.{patterns, precedes}
use Rattle.law.specs.Law.{Deserves, Lawful}
use Rattle.law.specs.Lists.{remaining, Reads, deserving, DeservingStands, ListIsWhole}
use Rattle.law.proofs.Order.{strict, carried}
use Rattle.law.proofs.Patterns.{decides_leb, decides_precedes}
use Rattle.law.proofs.Listed.{sound, complete, ascending}
use Rattle.law.proofs.Lawful.{every_run_is_lawful}
use Rattle.law.proofs.States.{false_from}
use Rattle.law.proofs.Kept.{kept_among, among_kept, ascending_kept, kept_falls, among_reverse, reverse_among, map_reverse, ascending_reverse, same_members}

-- the further a pattern is, the fewer come after it
pub remaining_falls : (n l : ℕ) (p q : List ℕ) → IsPattern n l q → Precedes p q → remaining n l q < remaining n l p
remaining_falls n l p q k b =
    kept_falls (precedes q) (precedes p) (patterns n l) q
    (λ r t. (decides_precedes p r).1 (carried p q r b ((decides_precedes q r).0 t)))
    (complete n l q k)
    (false_from (precedes q q) (Precedes q q) (decides_precedes q q) (strict q))
    ((decides_precedes p q).1 b)

-- pairs of which each second is a function of the first
pair_up : {A B : Type 0} (f : A → B) (xs : List (A × B)) → ((x : A) (y : B) → Among (x, y) xs → y ≡ f x) → xs ≡ map (λ x. (x, f x)) (map (λ x. x.0) xs)
pair_up f [] k = refl
pair_up {A} {B} f ((x, y) ∷ xs) k =
    let e = k x y (inl refl) in
    let t = pair_up f xs (λ u v i. k u v (inr i)) in
    ap (λ (z : B). (x, z) ∷ xs) e ∙ ap (λ (zs : List (A × B)). (x, f x) ∷ zs) t

module _ {O K : Type 0} (W : World O K) where
  module _ (o : O) (w : List K → Bool) where
    tested : (q : List ℕ) → Decides (w (events_of W o q) && leb (W.threshold o) (support_of W o q)) ((w (events_of W o q) ≡ true) × (W.threshold o ≤ support_of W o q))
    tested q = Decides-and _ _ (λ e. e, λ e. e) (decides_leb (W.threshold o) (support_of W o q))

    there : (q : List ℕ) → Among q (deserving W o w) → PatternOf W o q × (w (events_of W o q) ≡ true) × (W.threshold o ≤ support_of W o q)
    there q i =
        let x = kept_among _ q (patterns (length (W.lexicon o)) (W.longest o)) i in
        let d = (tested q).0 x.1 in
        (sound (length (W.lexicon o)) (W.longest o) q x.0, d.0, d.1)

    back : (q : List ℕ) → PatternOf W o q × (w (events_of W o q) ≡ true) × (W.threshold o ≤ support_of W o q) → Among q (deserving W o w)
    back q x =
        among_kept _ q (patterns (length (W.lexicon o)) (W.longest o)) (complete (length (W.lexicon o)) (W.longest o) q x.0)
        ((tested q).1 (x.1, x.2))

  pub deserving_stands : DeservingStands W
  deserving_stands =
      record {
        members = λ o w q. (there o w q, back o w q);
        rising = λ o w. ascending_kept _ (patterns (length (W.lexicon o)) (W.longest o)) (ascending (length (W.lexicon o)) (W.longest o));
      }

  module _ (w : List K → Bool) (o : O) where
    pub reads_opening : (h : List (Exchange O K)) → Reads w o h → opening h ≡ Some o
    reads_opening [] r = absurd r
    reads_opening (Opened p ∷ h) r = ap (λ (x : O). Some x) r
    reads_opening (Gave v m p s ∷ h) r = reads_opening h r.1
    reads_opening (Ended v m ∷ h) r = reads_opening h r.1
    reads_opening (Marked ∷ h) r = absurd r
    reads_opening (Raised t ∷ h) r = absurd r
    reads_opening (Besides a ∷ h) r = reads_opening h r

    pub reads_standing : (h : List (Exchange O K)) → Reads w o h → standing W h ≡ W.threshold o
    reads_standing [] r = absurd r
    reads_standing (Opened p ∷ h) r = ap (λ (x : O). W.threshold x) r
    reads_standing (Gave v m p s ∷ h) r = reads_standing h r.1
    reads_standing (Ended v m ∷ h) r = reads_standing h r.1
    reads_standing (Marked ∷ h) r = absurd r
    reads_standing (Raised t ∷ h) r = absurd r
    reads_standing (Besides a ∷ h) r = reads_standing h r

    reads_unskipped : (h : List (Exchange O K)) → Reads w o h → skipped h ≡ []
    reads_unskipped [] r = absurd r
    reads_unskipped (Opened p ∷ h) r = refl
    reads_unskipped (Gave v m p s ∷ h) r = reads_unskipped h r.1
    reads_unskipped (Ended v m ∷ h) r = reads_unskipped h r.1
    reads_unskipped (Marked ∷ h) r = absurd r
    reads_unskipped (Raised t ∷ h) r = absurd r
    reads_unskipped (Besides a ∷ h) r = reads_unskipped h r

    -- what it passes, it passes with its filter and at the opening's threshold
    reads_passed : (h : List (Exchange O K)) → Reads w o h → (v : List K → Bool) (t : ℕ) (q : List ℕ) → PassedAt W v t h q → (v ≡ w) × (t ≡ W.threshold o)
    reads_passed [] r v t q x = absurd r
    reads_passed (Opened p ∷ h) r v t q x = absurd x
    reads_passed (Gave u m p s ∷ h) r v t q (inl x) = reads_passed h r.1 v t q x
    reads_passed (Gave u m p s ∷ h) r v t q (inr x) = (x.2 ∙ r.0, x.3 ∙ reads_standing h r.1)
    reads_passed (Ended u m ∷ h) r v t q (inl x) = reads_passed h r.1 v t q x
    reads_passed (Ended u m ∷ h) r v t q (inr x) = (x.1 ∙ r.0, x.2 ∙ reads_standing h r.1)
    reads_passed (Marked ∷ h) r v t q x = absurd r
    reads_passed (Raised u ∷ h) r v t q x = absurd r
    reads_passed (Besides a ∷ h) r v t q x = reads_passed h r v t q x

    module _ (h : List (Exchange O K)) (r : Reads w o h) (l : Lawful W o h) where
      -- what was passed was handed out exactly if it deserves it
      exactly : (q : List ℕ) → PatternOf W o q → (v : List K → Bool) × ((t : ℕ) × PassedAt W v t h q) → Among q (handed_out h) ↔ Deserves W o [] w (W.threshold o) q
      exactly q k x =
          let e = reads_passed h r x.0 x.1.0 q x.1.1 in
          subst (λ (s : List (List ℕ)). Among q (handed_out h) ↔ Deserves W o s w (W.threshold o) q) (reads_unskipped h r)
          (subst (λ (u : ℕ). Among q (handed_out h) ↔ Deserves W o (skipped h) w u q) e.1
          (subst (λ (v : List K → Bool). Among q (handed_out h) ↔ Deserves W o (skipped h) v x.1.0 q) e.0
          (l.exact q k x.0 x.1.0 x.1.1)))

      handed_deserves : (q : List ℕ) → Among q (handed_out h) → Among q (deserving W o w)
      handed_deserves q i =
          let x = l.passed q i in
          let d = (exactly q x.0 (l.timed q x.0 x.1)).0 i in
          back o w q (x.0, d.wanted, d.reached)

      deserves_handed : stage h ≡ stages.Ended → (q : List ℕ) → Among q (deserving W o w) → Among q (handed_out h)
      deserves_handed e q i =
          let x = there o w q i in
          (exactly q x.0 (l.timed q x.0 (l.whole e q x.0))).1
          (record { wanted = x.1; free = λ s j b. j; reached = x.2 })

      listed : stage h ≡ stages.Ended → reverse (handed_out h) ≡ deserving W o w
      listed e =
          same_members (reverse (handed_out h)) (deserving W o w) (ascending_reverse (handed_out h) l.rising)
          (deserving_stands.rising o w)
          (λ q i. handed_deserves q (reverse_among q (handed_out h) i))
          (λ q i. among_reverse q (handed_out h) (deserves_handed e q i))

      whole : stage h ≡ stages.Ended → reverse (returned h) ≡ map (λ q. (q, support_of W o q)) (deserving W o w)
      whole e =
          ap reverse (pair_up (support_of W o) (returned h) l.supports)
          ∙ sym (map_reverse (λ q. (q, support_of W o q)) (handed_out h))
          ∙ ap (map (λ q. (q, support_of W o q))) (listed e)

  pub list_is_whole : ListIsWhole W
  list_is_whole h w o a r e = whole w o h r (every_run_is_lawful W [] h a o (reads_opening w o h r)) e
