-- The program's sets, as it reads, are those of the automaton.
use Rattle.std.proofs.Common.{◌≡◌, ℕ, zero, suc, ◌<◌, Bool, true, false, ◌&&◌, ◌↔◌, List, [], ◌∷◌, ◌++◌, length, get_or, sym, refl, ap, ◌∙◌, subst, ap₂, ⊎_elim, arith}
use mathlib.Core.Bool.{false≢true}
use Rattle.std.proofs.lemmas.Bool.Decides.{same_from_decides, Decides-not}
use Rattle.std.proofs.lemmas.Bool.{and_parts, cases_Bool, false_from_ne_true}
use Rattle.regular.specs.Regex.{Regex}
use Rattle.regular.specs.Accepts.{accepts}
use Rattle.regular.specs.Automata.{Numbered, fits, is_follow, State, unread, at, ahead_of, stepped, after, stuck}
use Rattle.event.specs.declared.order.Order.{Order}
use Rattle.regular.specs.Expressions.{labels_of, meets}
use Rattle.regular.specs.Labels.{suits}
use Rattle.regular.specs.declared.label.Label.{Label}
use Rattle.regular.specs.declared.expression.Expression.{Expression}
use Rattle.regular.specs.Machine.{Made, Reads, Steps}
use Rattle.regular.specs.Members.{member, Empty, Below}
use Rattle.regular.specs.declared.automaton.Automaton.{Automaton}
use Rattle.regular.specs.declared.reading.Reading.{Reading}
use Rattle.regular.proofs.Accepting.{decides_in}
use Rattle.regular.proofs.Looking.{any_same}
use Rattle.regular.proofs.Runs.{some_below, run_append, automaton_takes, stuck_barren}
use Rattle.regular.proofs.Walks.{first_in, follow_in}

pub fits_is : {A K : Type 0} (m : A → K → Bool) (l : List A) (d : A) (p : ℕ) (e : K) → p < length l → m (get_or l p d) e ≡ fits m l p e
fits_is m [] d p e h = absurd (omega arith)
fits_is m (a ∷ l) d zero e h = refl
fits_is m (a ∷ l) d (suc p) e h = fits_is m l d p e (omega arith)

-- what an event's meeting a label says of the leaf that has the label
pub meets_is : {K : Type 0} (order : K → K → Order) (x : Expression K) (label : Label K) (p : ℕ) (e : K) (met : Bool) → p < length (labels_of x) → label ≡ get_or (labels_of x) p label → met ≡ suits order label e → meets order x p e ≡ met
meets_is order x label p e met h is tells = sym (tells ∙ ap (λ l. suits order l e) is ∙ fits_is (suits order) (labels_of x) label p e h)

module _ {K : Type 0} (m : ℕ → K → Bool) (t : Regex ℕ) (n : ℕ) (nt : Numbered t 0 n) where
  ahead_within : (x : State) (i : ℕ) → ahead_of m t n x i ≡ true → i < n
  ahead_within unread i h = (first_in t 0 n i nt h).1
  ahead_within (at S) i h =
      let y = (some_below (λ p. S p && is_follow t p i) n).0 h in
      (follow_in t 0 n y.0 i nt (and_parts (S y.0) (is_follow t y.0 i) y.2).1).1.1

  pub reads_within : (x : State) (r : Reading) → Reads m t n x r → Below r.ahead n
  reads_within x r h p k = ahead_within x p (sym (h.places p) ∙ k)

  pub step_reads :
      (a : Automaton) → Made t n a → (x : State) (r r' : Reading) (e : K) →
      Reads m t n x r →
      Steps a n (λ p. m p e) r r' →
      Reads m t n (stepped m t n x e) r'
  step_reads a made x r r' e h steps =
      record {
        places = λ q. steps.places q ∙ any_same _ _ n (λ k l. ap₂ (λ b c. b && c) (here k) (made.follows k q l));
        over = steps.over ∙ any_same _ _ n (λ k l. ap₂ (λ b c. b && c) (here k) (made.lasts k));
      }
    where
      here : (p : ℕ) → (member r.ahead p && m p e) ≡ (ahead_of m t n x p && m p e)
      here p = ap (λ b. b && m p e) (h.places p)

  pub reads_more : (w : List K) (e : K) (r : Reading) → Reads m t n (stepped m t n (after m t n w) e) r → Reads m t n (after m t n (w ++ (e ∷ []))) r
  reads_more w e r reads = subst (λ (x : State). Reads m t n x r) (sym (run_append m t n unread w (e ∷ []))) reads

  pub reads_wanted : (w : List K) (r : Reading) → Reads m t n (after m t n w) r → r.ended ≡ accepts m t w
  reads_wanted w r reads =
      let x = automaton_takes m t n nt w in
      reads.over ∙ same_from_decides _ _ (x.1, x.0) (decides_in m t w)

  pub reads_barren : (w : List K) (r : Reading) → Reads m t n (after m t n w) r → (empty : Bool) → (empty ≡ true) ↔ Empty r.ahead → empty ≡ stuck m t n (after m t n w)
  reads_barren w r reads empty tells =
      same_from_decides _ _ (λ h y. false≢true (sym (tells.0 h y.0) ∙ reads.places y.0 ∙ y.2), λ none. tells.1 (λ p. false_from_ne_true _ (λ h. none (p, reads_within (after m t n w) r reads p h, sym (reads.places p) ∙ h))))
      (Decides-not _ (some_below (ahead_of m t n (after m t n w)) n))

  -- no extension of a list at which the automaton is stuck is accepted
  pub none_after : (w : List K) → stuck m t n (after m t n w) ≡ true → (e : K) (v : List K) → accepts m t (w ++ (e ∷ v)) ≡ false
  none_after w h e v =
      ⊎_elim (λ y. absurd (stuck_barren m t n nt w h e v ((decides_in m t (w ++ (e ∷ v))).0 y))) (λ y. y) (cases_Bool (accepts m t (w ++ (e ∷ v))))
