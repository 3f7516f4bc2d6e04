-- A loop that takes the places out of a set one by one, and gathers from those that fit.
use Rattle.std.proofs.Common.{◌≡◌, ℕ, zero, suc, ◌<◌, Bool, true, false, not, ◌&&◌, ◌||◌, eqb, ◌⊎◌, vec_items, sym, refl, ◌∙◌, subst, ap₂, inl, inr, ⊎_elim, arith}
use Rattle.std.proofs.lemmas.Bool.Decides.{nat_tests, same_from_decides, Decides-or, Decides-like}
use Rattle.std.proofs.lemmas.Bool.{false_from_ne_true, and_from, and_parts, and_right, eqb-true, cases_Bool}
use Rattle.regular.specs.Automata.{any_below}
use Rattle.regular.specs.Members.{member, behind, Empty, TakesOut}
use Rattle.regular.specs.Machine.{Steps}
use Rattle.regular.specs.declared.automaton.Automaton.{Automaton}
use Rattle.regular.specs.declared.reading.Reading.{Reading}
use Rattle.regular.specs.declared.set.Places.{Places}
use Rattle.regular.proofs.Runs.{some_below}

pub any_same : (f g : ℕ → Bool) (n : ℕ) → ((k : ℕ) → k < n → f k ≡ g k) → any_below f n ≡ any_below g n
any_same f g zero h = refl
any_same f g (suc n) h = ap₂ (λ a b. a || b) (h n (omega arith)) (any_same f g n (λ k l. h k (omega arith)))

none_below : (f : ℕ → Bool) (n : ℕ) → ((k : ℕ) × (k < n) × (f k ≡ true) → ⊥) → any_below f n ≡ false
none_below f n none = false_from_ne_true _ (λ e. none ((some_below f n).0 e))

-- of the places S, those that are not left have been looked at: R of some of them
abbrev seen : (S : ℕ → Bool) → Places → (R : ℕ → Bool) → ℕ → Bool
seen S left R n = any_below (λ p. (S p && not (member left p)) && R p) n

module _ (S R : ℕ → Bool) (n : ℕ) where
  -- none has been looked at, while all are left
  seen_none : (left : Places) → ((p : ℕ) → S p ≡ true → member left p ≡ true) → seen S left R n ≡ false
  seen_none left all = none_below _ n (λ y. let h = y.2 in let a = all y.0 in grind (arith, nat_tests))

  -- all have been looked at, where none is left
  seen_all : (left : Places) → Empty left → seen S left R n ≡ any_below (λ p. S p && R p) n
  seen_all left none = any_same _ _ n (λ k l. let e = none k in grind (arith, nat_tests))

  -- one more is looked at
  seen_more : (left left' : Places) (k : ℕ) → k < n → TakesOut left left' k → seen S left' R n ≡ (seen S left R n || (S k && R k))
  seen_more left left' k lt taken =
      same_from_decides _ _ (some_below _ n) (Decides-like _ back there (Decides-or _ (S k && R k) (some_below _ n) (λ h. h, λ h. h)))
    where
      Found : Places → Type 0
      Found l = (p : ℕ) × (p < n) × (((S p && not (member l p)) && R p) ≡ true)

      back : Found left ⊎ ((S k && R k) ≡ true) → Found left'
      back (inl y) = (y.0, y.1, let h = y.2 in let t = taken.rest y.0 in grind (arith, nat_tests))
      back (inr h) = (k, lt, let t = taken.rest k in grind (arith, nat_tests))

      there : Found left' → Found left ⊎ ((S k && R k) ≡ true)
      there y =
          ⊎_elim
          (λ e. inr (subst (λ (z : ℕ). (S z && R z) ≡ true) (sym (eqb-true k y.0 e)) (let h = y.2 in grind (arith, nat_tests))))
          (λ e. inl (y.0, y.1, let h = y.2 in let t = taken.rest y.0 in grind (arith, nat_tests)))
          (cases_Bool (eqb k y.0))

  -- the same where the place is met, and where it is not
  seen_met : (left left' : Places) (k : ℕ) (old new : Bool) → k < n → TakesOut left left' k → S k ≡ true → old ≡ seen S left R n → new ≡ (old || R k) → new ≡ seen S left' R n
  seen_met left left' k old new lt taken met o e = let m = seen_more left left' k lt taken in grind (arith, nat_tests)

  seen_unmet : (left left' : Places) (k : ℕ) (old : Bool) → k < n → TakesOut left left' k → S k ≡ false → old ≡ seen S left R n → old ≡ seen S left' R n
  seen_unmet left left' k old lt taken unmet o = let m = seen_more left left' k lt taken in grind (arith, nat_tests)

-- Where the loop of one step stands: the places left are of those ahead of the reading from, and the rest have been looked at. Of those that fit, the sets behind are gathered, and whether one is a last place.
pub record Looked (a : Automaton) (n : ℕ) (fit : ℕ → Bool) (from : Reading) (left ahead : Places) (ended : Bool) : Type 0 where
  pub ours : (p : ℕ) → member left p ≡ true → member from.ahead p ≡ true
  pub places : (q : ℕ) → member ahead q ≡ seen (λ p. member from.ahead p && fit p) left (λ p. behind (vec_items a.follow) p q) n
  pub over : ended ≡ seen (λ p. member from.ahead p && fit p) left (member a.last) n

module _ (a : Automaton) (n : ℕ) (fit : ℕ → Bool) (from : Reading) where
  abbrev here : ℕ → Bool
  here p = member from.ahead p && fit p

  abbrev next : ℕ → ℕ → Bool
  next q p = behind (vec_items a.follow) p q

  pub looked_none : (left ahead : Places) → left ≡ from.ahead → Empty ahead → Looked a n fit from left ahead false
  looked_none left ahead same none =
      record {
        ours = λ p h. subst (λ (s : Places). member s p ≡ true) same h;
        places = λ q. none q ∙ sym (seen_none here (next q) n left all);
        over = sym (seen_none here (member a.last) n left all);
      }
    where
      all : (p : ℕ) → here p ≡ true → member left p ≡ true
      all p h = subst (λ (s : Places). member s p ≡ true) (sym same) (and_parts (member from.ahead p) (fit p) h).0

  pub looked_all : (left ahead : Places) (ended : Bool) → Looked a n fit from left ahead ended → Empty left → Steps a n fit from (record { ahead = ahead; ended = ended })
  looked_all left ahead ended looked none =
      record {
        places = λ q. looked.places q ∙ seen_all here (next q) n left none;
        over = looked.over ∙ seen_all here (member a.last) n left none;
      }

  module _ (left left' ahead : Places) (k : ℕ) (ended : Bool) (looked : Looked a n fit from left ahead ended) (lt : k < n) (taken : TakesOut left left' k) where
    still : (p : ℕ) → member left' p ≡ true → member from.ahead p ≡ true
    still p h = looked.ours p (and_parts (member left p) (not (eqb k p)) (sym (taken.rest p) ∙ h)).0

    pub looked_met : (ahead' : Places) (ended' : Bool) → fit k ≡ true → ((q : ℕ) → member ahead' q ≡ (member ahead q || next q k)) → ended' ≡ (ended || member a.last k) → Looked a n fit from left' ahead' ended'
    looked_met ahead' ended' met more over =
        let at = and_from (member from.ahead k) (fit k) (looked.ours k taken.has) met in
        record {
          ours = still;
          places = λ q. seen_met here (next q) n left left' k (member ahead q) (member ahead' q) lt taken at (looked.places q) (more q);
          over = seen_met here (member a.last) n left left' k ended ended' lt taken at looked.over over;
        }

    pub looked_unmet : fit k ≡ false → Looked a n fit from left' ahead ended
    looked_unmet unmet =
        let at = and_right (member from.ahead k) (fit k) unmet in
        record {
          ours = still;
          places = λ q. seen_unmet here (next q) n left left' k (member ahead q) lt taken at (looked.places q);
          over = seen_unmet here (member a.last) n left left' k ended lt taken at looked.over;
        }
