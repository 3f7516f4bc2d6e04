-- The test is the language.
use Rattle.std.proofs.Common.{◌≡◌, ℕ, zero, suc, ◌≤◌, Bool, true, false, ◌&&◌, ◌||◌, ◌⊎◌, List, [], ◌∷◌, ◌++◌, length, Decides, sym, refl, ap, ◌∙◌, subst, inl, inr, arith, length-append}
use mathlib.Core.Bool.{false≢true}
use mathlib.Core.List.{nil≢cons, cons≢nil, head-eq_of_cons-eq, tail-eq_of_cons-eq}
use Rattle.std.proofs.lemmas.Bool.Decides.{Decides-and, Decides-or, Decides-like}
use Rattle.regular.specs.Regex.{Regex, one, seq, alt, star, plus, opt, joined, Each, In}
use Rattle.regular.specs.Accepts.{none, cuts, parts, single, accepts}

decides_no : {P : Type 0} → (P → ⊥) → Decides false P
decides_no n = (λ e. absurd (false≢true e), λ p. absurd (n p))

decides_yes : {P : Type 0} → P → Decides true P
decides_yes p = (λ e. p, λ q. refl)

module _ {K : Type 0} where
  decides_none : (w : List K) → Decides (none w) (w ≡ [])
  decides_none [] = decides_yes refl
  decides_none (e ∷ w) = decides_no (λ h. cons≢nil h)

  abbrev Cut : (List K → List K → Type 0) → List K → Type 0
  Cut P w = (u : List K) × (v : List K) × (w ≡ u ++ v) × P u v

  cut_nil : (P : List K → List K → Type 0) (u v : List K) → [] ≡ u ++ v → P u v → P [] []
  cut_nil P [] [] h p = p
  cut_nil P [] (y ∷ v) h p = absurd (nil≢cons h)
  cut_nil P (x ∷ u) v h p = absurd (nil≢cons h)

  cut_cons : (P : List K → List K → Type 0) (e : K) (w u v : List K) → (e ∷ w) ≡ u ++ v → P u v → P [] (e ∷ w) ⊎ Cut (λ a b. P (e ∷ a) b) w
  cut_cons P e w [] v h p = inl (subst (P []) (sym h) p)
  cut_cons P e w (x ∷ u) v h p = inr (u, v, tail-eq_of_cons-eq h, subst (λ (z : K). P (z ∷ u) v) (sym (head-eq_of_cons-eq h)) p)

  cons_cut : (P : List K → List K → Type 0) (e : K) (w : List K) → P [] (e ∷ w) ⊎ Cut (λ a b. P (e ∷ a) b) w → Cut P (e ∷ w)
  cons_cut P e w (inl p) = ([], e ∷ w, refl, p)
  cons_cut P e w (inr c) = (e ∷ c.0, c.1, ap (λ z. e ∷ z) c.2, c.3)

  decides_cuts : (f : List K → List K → Bool) (P : List K → List K → Type 0) (w : List K) → ((u v : List K) → w ≡ u ++ v → Decides (f u v) (P u v)) → Decides (cuts f w) (Cut P w)
  decides_cuts f P [] d = Decides-like (f [] []) (λ p. ([], [], refl, p)) (λ c. cut_nil P c.0 c.1 c.2 c.3) (d [] [] refl)
  decides_cuts f P (e ∷ w) d =
      Decides-like (f [] (e ∷ w) || cuts (λ u v. f (e ∷ u) v) w) (cons_cut P e w) (λ c. cut_cons P e w c.0 c.1 c.2 c.3)
      (Decides-or _ _ (d [] (e ∷ w) refl) (decides_cuts (λ u v. f (e ∷ u) v) (λ u v. P (e ∷ u) v) w (λ u v h. d (e ∷ u) v (ap (λ z. e ∷ z) h))))

  abbrev Parts : (List K → Type 0) → List K → Type 0
  Parts P w = (us : List (List K)) × (w ≡ joined us) × Each P us

  -- the first part that is not empty
  part_off : (P : List K → Type 0) (e : K) (w : List K) (us : List (List K)) → (e ∷ w) ≡ joined us → Each P us → Cut (λ u v. P (e ∷ u) × Parts P v) w
  part_off P e w [] h p = absurd (cons≢nil h)
  part_off P e w ([] ∷ us) h p = part_off P e w us h p.1
  part_off P e w ((x ∷ u) ∷ us) h p =
      (u, joined us, tail-eq_of_cons-eq h, (subst (λ (z : K). P (z ∷ u)) (sym (head-eq_of_cons-eq h)) p.0, (us, refl, p.1)))

  part_on : (P : List K → Type 0) (e : K) (w : List K) → Cut (λ u v. P (e ∷ u) × Parts P v) w → Parts P (e ∷ w)
  part_on P e w c = ((e ∷ c.0) ∷ c.3.1.0, ap (λ z. e ∷ z) (c.2 ∙ ap (λ z. c.0 ++ z) c.3.1.1), (c.3.0, c.3.1.2))

  shorter : (n : ℕ) (w u v : List K) → suc (length w) ≤ suc n → w ≡ u ++ v → length v ≤ n
  shorter n w u v l h = omega (arith, ap length h, length-append u v)

  decides_parts : (f : List K → Bool) (P : List K → Type 0) → ((w : List K) → Decides (f w) (P w)) → (n : ℕ) (w : List K) → length w ≤ n → Decides (parts f n w) (Parts P w)
  decides_parts f P d n [] l = decides_yes ([], refl, tt)
  decides_parts f P d zero (e ∷ w) l = absurd (omega arith)
  decides_parts f P d (suc n) (e ∷ w) l =
      Decides-like (cuts (λ u v. f (e ∷ u) && parts f n v) w) (part_on P e w) (λ c. part_off P e w c.0 c.1 c.2)
      (decides_cuts (λ u v. f (e ∷ u) && parts f n v) (λ u v. P (e ∷ u) × Parts P v) w
      (λ u v h. Decides-and _ _ (d (e ∷ u)) (decides_parts f P d n v (shorter n w u v l h))))

module _ {A K : Type 0} (m : A → K → Bool) where
  decides_single : (a : A) (w : List K) → Decides (single m a w) (In m (one a) w)
  decides_single a [] = decides_no (λ x. nil≢cons x.1)
  decides_single a (e ∷ w) =
      Decides-like (m a e && none w) there back (Decides-and _ _ (λ h. h, λ h. h) (decides_none w))
    where
      there : (m a e ≡ true) × (w ≡ []) → In m (one a) (e ∷ w)
      there x = (e, ap (λ z. e ∷ z) x.1, x.0)

      back : In m (one a) (e ∷ w) → (m a e ≡ true) × (w ≡ [])
      back x = (subst (λ (z : K). m a z ≡ true) (sym (head-eq_of_cons-eq x.1)) x.2, tail-eq_of_cons-eq x.1)

  pub decides_in : (r : Regex A) (w : List K) → Decides (accepts m r w) (In m r w)
  decides_in (one a) w = decides_single a w
  decides_in (seq s t) w =
      Decides-like (accepts m (seq s t) w) (λ c. (c.0, c.1, c.2, c.3.0, c.3.1)) (λ c. (c.0, c.1, c.2, (c.3, c.4)))
      (decides_cuts _ (λ u v. In m s u × In m t v) w (λ u v h. Decides-and _ _ (decides_in s u) (decides_in t v)))
  decides_in (alt s t) w = Decides-or _ _ (decides_in s w) (decides_in t w)
  decides_in (star s) w = decides_parts (accepts m s) (In m s) (decides_in s) (length w) w (omega arith)
  decides_in (plus s) w =
      Decides-like (accepts m (plus s) w) there back
      (decides_cuts _ (λ u v. In m s u × Parts (In m s) v) w
      (λ u v h. Decides-and _ _ (decides_in s u) (decides_parts (accepts m s) (In m s) (decides_in s) (length v) v (omega arith))))
    where
      there : Cut (λ u v. In m s u × Parts (In m s) v) w → In m (plus s) w
      there c = (c.0, c.3.1.0, c.2 ∙ ap (λ z. c.0 ++ z) c.3.1.1, c.3.0, c.3.1.2)

      back : In m (plus s) w → Cut (λ u v. In m s u × Parts (In m s) v) w
      back c = (c.0, joined c.1, c.2, (c.3, (c.1, refl, c.4)))
  decides_in (opt s) w = Decides-or _ _ (decides_none w) (decides_in s w)
