-- The walks through the places of an expression, from a first place to a last one, are its language.
use Rattle.std.proofs.Common.{◌≡◌, ℕ, ◌<◌, ◌≤◌, Bool, true, ◌⊎◌, List, [], ◌∷◌, ◌++◌, sym, refl, ap, subst, inl, inr, ⊎_elim, arith}
use mathlib.Core.Bool.{false≢true}
use Rattle.std.proofs.lemmas.Bool.{eqb-true, eq-eqb, or_cases, or_left, or_right, and_from, and_parts}
use Rattle.regular.specs.Regex.{Regex, one, seq, alt, star, plus, opt, joined, Each, In}
use Rattle.regular.specs.Automata.{Numbered, takes_empty, is_first, is_last, is_follow}

abbrev pub Within : ℕ → ℕ → ℕ → Type 0
Within lo hi p = (lo ≤ p) × (p < hi)

pub numbered_order : (t : Regex ℕ) (lo hi : ℕ) → Numbered t lo hi → lo < hi
numbered_order (one a) lo hi n = omega arith
numbered_order (seq s t) lo hi n =
    let a = numbered_order s lo n.0 n.1 in
    let b = numbered_order t n.0 hi n.2 in
    omega arith
numbered_order (alt s t) lo hi n =
    let a = numbered_order s lo n.0 n.1 in
    let b = numbered_order t n.0 hi n.2 in
    omega arith
numbered_order (star s) lo hi n = numbered_order s lo hi n
numbered_order (plus s) lo hi n = numbered_order s lo hi n
numbered_order (opt s) lo hi n = numbered_order s lo hi n

pub left_in : (t : Regex ℕ) (lo mid hi p : ℕ) → Numbered t mid hi → Within lo mid p → Within lo hi p
left_in t lo mid hi p n w = let b = numbered_order t mid hi n in omega arith

pub right_in : (s : Regex ℕ) (lo mid hi p : ℕ) → Numbered s lo mid → Within mid hi p → Within lo hi p
right_in s lo mid hi p n w = let b = numbered_order s lo mid n in omega arith

pub first_in : (t : Regex ℕ) (lo hi p : ℕ) → Numbered t lo hi → is_first t p ≡ true → Within lo hi p
first_in (one a) lo hi p n h = let e : a ≡ p = eqb-true a p h in omega arith
first_in (seq s t) lo hi p n h =
    ⊎_elim (λ x. left_in t lo n.0 hi p n.2 (first_in s lo n.0 p n.1 x))
    (λ x. right_in s lo n.0 hi p n.1 (first_in t n.0 hi p n.2 (and_parts _ _ x).1))
    (or_cases _ _ h)
first_in (alt s t) lo hi p n h =
    ⊎_elim (λ x. left_in t lo n.0 hi p n.2 (first_in s lo n.0 p n.1 x))
    (λ x. right_in s lo n.0 hi p n.1 (first_in t n.0 hi p n.2 x))
    (or_cases _ _ h)
first_in (star s) lo hi p n h = first_in s lo hi p n h
first_in (plus s) lo hi p n h = first_in s lo hi p n h
first_in (opt s) lo hi p n h = first_in s lo hi p n h

pub last_in : (t : Regex ℕ) (lo hi p : ℕ) → Numbered t lo hi → is_last t p ≡ true → Within lo hi p
last_in (one a) lo hi p n h = let e : a ≡ p = eqb-true a p h in omega arith
last_in (seq s t) lo hi p n h =
    ⊎_elim (λ x. right_in s lo n.0 hi p n.1 (last_in t n.0 hi p n.2 x))
    (λ x. left_in t lo n.0 hi p n.2 (last_in s lo n.0 p n.1 (and_parts _ _ x).1))
    (or_cases _ _ h)
last_in (alt s t) lo hi p n h =
    ⊎_elim (λ x. left_in t lo n.0 hi p n.2 (last_in s lo n.0 p n.1 x))
    (λ x. right_in s lo n.0 hi p n.1 (last_in t n.0 hi p n.2 x))
    (or_cases _ _ h)
last_in (star s) lo hi p n h = last_in s lo hi p n h
last_in (plus s) lo hi p n h = last_in s lo hi p n h
last_in (opt s) lo hi p n h = last_in s lo hi p n h

abbrev Both : ℕ → ℕ → ℕ → ℕ → Type 0
Both lo hi p q = Within lo hi p × Within lo hi q

pub follow_in : (t : Regex ℕ) (lo hi p q : ℕ) → Numbered t lo hi → is_follow t p q ≡ true → Both lo hi p q
follow_in (one a) lo hi p q n h = absurd (false≢true h)
follow_in (seq s t) lo hi p q n h =
    ⊎_elim (λ x. let i = follow_in s lo n.0 p q n.1 x in (left_in t lo n.0 hi p n.2 i.0, left_in t lo n.0 hi q n.2 i.1))
    (λ y. ⊎_elim (λ x. let i = follow_in t n.0 hi p q n.2 x in (right_in s lo n.0 hi p n.1 i.0, right_in s lo n.0 hi q n.1 i.1))
    (λ x. let a = and_parts _ _ x in (left_in t lo n.0 hi p n.2 (last_in s lo n.0 p n.1 a.0), right_in s lo n.0 hi q n.1 (first_in t n.0 hi q n.2 a.1)))
    (or_cases _ _ y))
    (or_cases _ _ h)
follow_in (alt s t) lo hi p q n h =
    ⊎_elim (λ x. let i = follow_in s lo n.0 p q n.1 x in (left_in t lo n.0 hi p n.2 i.0, left_in t lo n.0 hi q n.2 i.1))
    (λ x. let i = follow_in t n.0 hi p q n.2 x in (right_in s lo n.0 hi p n.1 i.0, right_in s lo n.0 hi q n.1 i.1))
    (or_cases _ _ h)
follow_in (star s) lo hi p q n h =
    ⊎_elim (λ x. follow_in s lo hi p q n x)
    (λ x. let a = and_parts _ _ x in (last_in s lo hi p n a.0, first_in s lo hi q n a.1))
    (or_cases _ _ h)
follow_in (plus s) lo hi p q n h =
    ⊎_elim (λ x. follow_in s lo hi p q n x)
    (λ x. let a = and_parts _ _ x in (last_in s lo hi p n a.0, first_in s lo hi q n a.1))
    (or_cases _ _ h)
follow_in (opt s) lo hi p q n h = follow_in s lo hi p q n h

module _ {K : Type 0} (m : ℕ → K → Bool) where
  -- from the place p on, each event meets a place that F has behind the one before, and the walk ends in L
  abbrev pub Walk : (ℕ → Bool) → (ℕ → ℕ → Bool) → ℕ → List K → Type 0
  Walk L F p [] = L p ≡ true
  Walk L F p (e ∷ w) = (q : ℕ) × (F p q ≡ true) × (m q e ≡ true) × Walk L F q w

  abbrev pub Taken : Bool → (ℕ → Bool) → (ℕ → Bool) → (ℕ → ℕ → Bool) → List K → Type 0
  Taken E I L F [] = E ≡ true
  Taken E I L F (e ∷ w) = (q : ℕ) × (I q ≡ true) × (m q e ≡ true) × Walk L F q w

  abbrev pub Walks : Regex ℕ → ℕ → List K → Type 0
  Walks t p w = Walk (is_last t) (is_follow t) p w

  abbrev pub Takes : Regex ℕ → List K → Type 0
  Takes t w = Taken (takes_empty t) (is_first t) (is_last t) (is_follow t) w

  pub walk_more : (L L' : ℕ → Bool) (F F' : ℕ → ℕ → Bool) → ((p : ℕ) → L p ≡ true → L' p ≡ true) → ((p q : ℕ) → F p q ≡ true → F' p q ≡ true) → (p : ℕ) (w : List K) → Walk L F p w → Walk L' F' p w
  walk_more L L' F F' l f p [] x = l p x
  walk_more L L' F F' l f p (e ∷ w) x = (x.0, f p x.0 x.1, x.2, walk_more L L' F F' l f x.0 w x.3)

  -- a walk goes on into what is taken, over to it by an F from an L₁ to an I₂
  pub walk_join : (L₁ : ℕ → Bool) (F₁ : ℕ → ℕ → Bool) (E₂ : Bool) (I₂ L₂ : ℕ → Bool) (F₂ : ℕ → ℕ → Bool) (L : ℕ → Bool) (F : ℕ → ℕ → Bool) → ((p q : ℕ) → F₁ p q ≡ true → F p q ≡ true) → ((p q : ℕ) → F₂ p q ≡ true → F p q ≡ true) → ((p q : ℕ) → L₁ p ≡ true → I₂ q ≡ true → F p q ≡ true) → ((p : ℕ) → L₂ p ≡ true → L p ≡ true) → ((p : ℕ) → E₂ ≡ true → L₁ p ≡ true → L p ≡ true) → (p : ℕ) (u v : List K) → Walk L₁ F₁ p u → Taken E₂ I₂ L₂ F₂ v → Walk L F p (u ++ v)
  walk_join L₁ F₁ E₂ I₂ L₂ F₂ L F f₁ f₂ j l₂ l₁ p [] [] x y = l₁ p y x
  walk_join L₁ F₁ E₂ I₂ L₂ F₂ L F f₁ f₂ j l₂ l₁ p [] (e ∷ v) x y = (y.0, j p y.0 x y.1, y.2, walk_more L₂ L F₂ F l₂ f₂ y.0 v y.3)
  walk_join L₁ F₁ E₂ I₂ L₂ F₂ L F f₁ f₂ j l₂ l₁ p (e ∷ u) v x y = (x.0, f₁ p x.0 x.1, x.2, walk_join L₁ F₁ E₂ I₂ L₂ F₂ L F f₁ f₂ j l₂ l₁ x.0 u v x.3 y)

  pub join_seq : (s t : Regex ℕ) (p : ℕ) (u v : List K) → Walks s p u → Takes t v → Walks (seq s t) p (u ++ v)
  join_seq s t p u v x y =
      walk_join (is_last s) (is_follow s) (takes_empty t) (is_first t) (is_last t) (is_follow t) (is_last (seq s t)) (is_follow (seq s t))
      (λ p q h. or_left _ _ h) (λ p q h. or_right _ _ (or_left _ _ h)) (λ p q h k. or_right (is_follow s p q) _ (or_right (is_follow t p q) _ (and_from _ _ h k)))
      (λ p h. or_left _ _ h) (λ p h k. or_right _ _ (and_from _ _ h k)) p u v x y

  join_star : (s : Regex ℕ) (E : Bool) (p : ℕ) (u v : List K) → Walks s p u → Taken E (is_first s) (is_last s) (is_follow (star s)) v → Walks (star s) p (u ++ v)
  join_star s E p u v x y =
      walk_join (is_last s) (is_follow s) E (is_first s) (is_last s) (is_follow (star s)) (is_last (star s)) (is_follow (star s))
      (λ p q h. or_left _ _ h) (λ p q h. h) (λ p q h k. or_right _ _ (and_from _ _ h k))
      (λ p h. h) (λ p h k. k) p u v x y

  pub walk_right : (s t : Regex ℕ) (p : ℕ) (w : List K) → Walks t p w → Walks (seq s t) p w
  walk_right s t p w x = walk_more (is_last t) (is_last (seq s t)) (is_follow t) (is_follow (seq s t)) (λ p h. or_left _ _ h) (λ p q h. or_right _ _ (or_left _ _ h)) p w x

  pub walk_alt_left : (s t : Regex ℕ) (p : ℕ) (w : List K) → Walks s p w → Walks (alt s t) p w
  walk_alt_left s t p w x = walk_more (is_last s) (is_last (alt s t)) (is_follow s) (is_follow (alt s t)) (λ p h. or_left _ _ h) (λ p q h. or_left _ _ h) p w x

  pub walk_alt_right : (s t : Regex ℕ) (p : ℕ) (w : List K) → Walks t p w → Walks (alt s t) p w
  walk_alt_right s t p w x = walk_more (is_last t) (is_last (alt s t)) (is_follow t) (is_follow (alt s t)) (λ p h. or_right _ _ h) (λ p q h. or_right _ _ h) p w x

  pub walk_star : (s : Regex ℕ) (p : ℕ) (w : List K) → Walks s p w → Walks (star s) p w
  walk_star s p w x = walk_more (is_last s) (is_last s) (is_follow s) (is_follow (star s)) (λ p h. h) (λ p q h. or_left _ _ h) p w x

  -- What is in the language is taken.
  takes_one : (a : ℕ) (e : K) → m a e ≡ true → Takes (one a) (e ∷ [])
  takes_one a e h = (a, eq-eqb a a refl, h, eq-eqb a a refl)

  takes_seq : (s t : Regex ℕ) (u v : List K) → Takes s u → Takes t v → Takes (seq s t) (u ++ v)
  takes_seq s t [] [] x y = and_from _ _ x y
  takes_seq s t [] (e ∷ v) x y = (y.0, or_right _ _ (and_from _ _ x y.1), y.2, walk_right s t y.0 v y.3)
  takes_seq s t (e ∷ u) v x y = (x.0, or_left _ _ x.1, x.2, join_seq s t x.0 u v x.3 y)

  takes_left : (s t : Regex ℕ) (w : List K) → Takes s w → Takes (alt s t) w
  takes_left s t [] x = or_left _ _ x
  takes_left s t (e ∷ w) x = (x.0, or_left _ _ x.1, x.2, walk_alt_left s t x.0 w x.3)

  takes_right : (s t : Regex ℕ) (w : List K) → Takes t w → Takes (alt s t) w
  takes_right s t [] x = or_right _ _ x
  takes_right s t (e ∷ w) x = (x.0, or_right _ _ x.1, x.2, walk_alt_right s t x.0 w x.3)

  takes_more : (s : Regex ℕ) (u v : List K) → Takes s u → Takes (star s) v → Takes (star s) (u ++ v)
  takes_more s [] v x y = y
  takes_more s (e ∷ u) v x y = (x.0, x.1, x.2, join_star s true x.0 u v x.3 y)

  takes_star : (s : Regex ℕ) (us : List (List K)) → Each (Takes s) us → Takes (star s) (joined us)
  takes_star s [] x = refl
  takes_star s (u ∷ us) x = takes_more s u (joined us) x.0 (takes_star s us x.1)

  -- one part at least was empty, or there was one that was not
  takes_plus : (s : Regex ℕ) (u v : List K) → Takes s u → Takes (star s) v → Takes (plus s) (u ++ v)
  takes_plus s [] [] x y = x
  takes_plus s [] (e ∷ v) x y = y
  takes_plus s (e ∷ u) v x y = (x.0, x.1, x.2, join_star s true x.0 u v x.3 y)

  takes_opt : (s : Regex ℕ) (w : List K) → Takes s w → Takes (opt s) w
  takes_opt s [] x = refl
  takes_opt s (e ∷ w) x = x

  each_map : {P Q : List K → Type 0} → ((u : List K) → P u → Q u) → (us : List (List K)) → Each P us → Each Q us
  each_map f [] x = tt
  each_map f (u ∷ us) x = (f u x.0, each_map f us x.1)

  pub complete : (t : Regex ℕ) (w : List K) → In m t w → Takes t w
  complete (one a) w x = subst (Takes (one a)) (sym x.1) (takes_one a x.0 x.2)
  complete (seq s t) w x = subst (Takes (seq s t)) (sym x.2) (takes_seq s t x.0 x.1 (complete s x.0 x.3) (complete t x.1 x.4))
  complete (alt s t) w (inl x) = takes_left s t w (complete s w x)
  complete (alt s t) w (inr x) = takes_right s t w (complete t w x)
  complete (star s) w x = subst (Takes (star s)) (sym x.1) (takes_star s x.0 (each_map (complete s) x.0 x.2))
  complete (plus s) w x =
      subst (Takes (plus s)) (sym x.2)
      (takes_plus s x.0 (joined x.1) (complete s x.0 x.3) (takes_star s x.1 (each_map (complete s) x.1 x.4)))
  complete (opt s) w (inl x) = subst (Takes (opt s)) (sym x) refl
  complete (opt s) w (inr x) = takes_opt s w (complete s w x)

  -- What is taken is in the language.
  abbrev Cut : (List K → Type 0) → (List K → Type 0) → List K → Type 0
  Cut P Q w = (u : List K) × (v : List K) × (w ≡ u ++ v) × P u × Q v

  module _ (s t : Regex ℕ) (lo mid hi : ℕ) (ns : Numbered s lo mid) (nt : Numbered t mid hi) where
    apart : {G : Type 0} → (p : ℕ) → Within lo mid p → Within mid hi p → G
    apart p a b = absurd (omega arith)

    seq_right : (p : ℕ) (w : List K) → Within mid hi p → Walks (seq s t) p w → Walks t p w
    seq_right p [] i x =
        ⊎_elim (λ h. h) (λ h. apart p (last_in s lo mid p ns (and_parts _ _ h).1) i) (or_cases _ _ x)
    seq_right p (e ∷ w) i x =
        ⊎_elim (λ h. apart p (follow_in s lo mid p x.0 ns h).0 i)
        (λ y. ⊎_elim (λ h. (x.0, h, x.2, seq_right x.0 w (follow_in t mid hi p x.0 nt h).1 x.3))
        (λ h. apart p (last_in s lo mid p ns (and_parts _ _ h).0) i)
        (or_cases _ _ y))
        (or_cases _ _ x.1)

    seq_left : (p : ℕ) (w : List K) → Within lo mid p → Walks (seq s t) p w → Cut (Walks s p) (Takes t) w
    seq_left p [] i x =
        ⊎_elim (λ h. apart p i (last_in t mid hi p nt h)) (λ h. let a = and_parts _ _ h in ([], [], refl, a.1, a.0)) (or_cases _ _ x)
    seq_left p (e ∷ w) i x =
        ⊎_elim (λ h. on h (seq_left x.0 w (follow_in s lo mid p x.0 ns h).1 x.3))
        (λ y. ⊎_elim (λ h. apart p i (follow_in t mid hi p x.0 nt h).0)
        (λ h. let a = and_parts _ _ h in ([], e ∷ w, refl, a.0, (x.0, a.1, x.2, seq_right x.0 w (first_in t mid hi x.0 nt a.1) x.3)))
        (or_cases _ _ y))
        (or_cases _ _ x.1)
      where
        on : is_follow s p x.0 ≡ true → Cut (Walks s x.0) (Takes t) w → Cut (Walks s p) (Takes t) (e ∷ w)
        on h c = (e ∷ c.0, c.1, ap (λ z. e ∷ z) c.2, (x.0, h, x.2, c.3), c.4)

    seq_taken : (w : List K) → Takes (seq s t) w → Cut (Takes s) (Takes t) w
    seq_taken [] x = let a = and_parts _ _ x in ([], [], refl, a.0, a.1)
    seq_taken (e ∷ w) x =
        ⊎_elim (λ h. on h (seq_left x.0 w (first_in s lo mid x.0 ns h) x.3))
        (λ h. let a = and_parts _ _ h in ([], e ∷ w, refl, a.0, (x.0, a.1, x.2, seq_right x.0 w (first_in t mid hi x.0 nt a.1) x.3)))
        (or_cases _ _ x.1)
      where
        on : is_first s x.0 ≡ true → Cut (Walks s x.0) (Takes t) w → Cut (Takes s) (Takes t) (e ∷ w)
        on h c = (e ∷ c.0, c.1, ap (λ z. e ∷ z) c.2, (x.0, h, x.2, c.3), c.4)

    alt_left : (p : ℕ) (w : List K) → Within lo mid p → Walks (alt s t) p w → Walks s p w
    alt_left p [] i x = ⊎_elim (λ h. h) (λ h. apart p i (last_in t mid hi p nt h)) (or_cases _ _ x)
    alt_left p (e ∷ w) i x =
        ⊎_elim (λ h. (x.0, h, x.2, alt_left x.0 w (follow_in s lo mid p x.0 ns h).1 x.3))
        (λ h. apart p i (follow_in t mid hi p x.0 nt h).0)
        (or_cases _ _ x.1)

    alt_right : (p : ℕ) (w : List K) → Within mid hi p → Walks (alt s t) p w → Walks t p w
    alt_right p [] i x = ⊎_elim (λ h. apart p (last_in s lo mid p ns h) i) (λ h. h) (or_cases _ _ x)
    alt_right p (e ∷ w) i x =
        ⊎_elim (λ h. apart p (follow_in s lo mid p x.0 ns h).0 i)
        (λ h. (x.0, h, x.2, alt_right x.0 w (follow_in t mid hi p x.0 nt h).1 x.3))
        (or_cases _ _ x.1)

    alt_taken : (w : List K) → Takes (alt s t) w → Takes s w ⊎ Takes t w
    alt_taken [] x = or_cases _ _ x
    alt_taken (e ∷ w) x =
        ⊎_elim (λ h. inl (x.0, h, x.2, alt_left x.0 w (first_in s lo mid x.0 ns h) x.3))
        (λ h. inr (x.0, h, x.2, alt_right x.0 w (first_in t mid hi x.0 nt h) x.3))
        (or_cases _ _ x.1)

  abbrev Parted : (List K → Type 0) → (List K → Type 0) → List K → Type 0
  Parted P Q w = (u : List K) × (us : List (List K)) × (w ≡ u ++ joined us) × P u × Each Q us

  star_walk : (s : Regex ℕ) (p : ℕ) (w : List K) → Walks (star s) p w → Parted (Walks s p) (Takes s) w
  star_walk s p [] x = ([], [], refl, x, tt)
  star_walk s p (e ∷ w) x =
      let c = star_walk s x.0 w x.3 in
      ⊎_elim (λ h. (e ∷ c.0, c.1, ap (λ z. e ∷ z) c.2, (x.0, h, x.2, c.3), c.4))
      (λ h. let a = and_parts _ _ h in ([], (e ∷ c.0) ∷ c.1, ap (λ z. e ∷ z) c.2, a.0, ((x.0, a.1, x.2, c.3), c.4)))
      (or_cases _ _ x.1)

  star_taken : (s : Regex ℕ) (w : List K) → Takes (star s) w → (us : List (List K)) × (w ≡ joined us) × Each (Takes s) us
  star_taken s [] x = ([], refl, tt)
  star_taken s (e ∷ w) x =
      let c = star_walk s x.0 w x.3 in
      ((e ∷ c.0) ∷ c.1, ap (λ z. e ∷ z) c.2, ((x.0, x.1, x.2, c.3), c.4))

  plus_taken : (s : Regex ℕ) (w : List K) → Takes (plus s) w → Parted (Takes s) (Takes s) w
  plus_taken s [] x = ([], [], refl, x, tt)
  plus_taken s (e ∷ w) x =
      let c = star_walk s x.0 w x.3 in
      (e ∷ c.0, c.1, ap (λ z. e ∷ z) c.2, (x.0, x.1, x.2, c.3), c.4)

  one_taken : (a : ℕ) (w : List K) → Takes (one a) w → In m (one a) w
  one_taken a [] x = absurd (false≢true x)
  one_taken a (e ∷ []) x = (e, refl, subst (λ (z : ℕ). m z e ≡ true) (sym (eqb-true a x.0 x.1)) x.2)
  one_taken a (e ∷ (f ∷ w)) x = absurd (false≢true x.3.1)

  opt_taken : (s : Regex ℕ) (w : List K) → Takes (opt s) w → (w ≡ []) ⊎ Takes s w
  opt_taken s [] x = inl refl
  opt_taken s (e ∷ w) x = inr x

  pub sound : (t : Regex ℕ) (lo hi : ℕ) → Numbered t lo hi → (w : List K) → Takes t w → In m t w
  sound (one a) lo hi n w x = one_taken a w x
  sound (seq s t) lo hi n w x =
      let c = seq_taken s t lo n.0 hi n.1 n.2 w x in
      (c.0, c.1, c.2, sound s lo n.0 n.1 c.0 c.3, sound t n.0 hi n.2 c.1 c.4)
  sound (alt s t) lo hi n w x =
      ⊎_elim (λ y. inl (sound s lo n.0 n.1 w y)) (λ y. inr (sound t n.0 hi n.2 w y))
      (alt_taken s t lo n.0 hi n.1 n.2 w x)
  sound (star s) lo hi n w x =
      let c = star_taken s w x in
      (c.0, c.1, each_map (sound s lo hi n) c.0 c.2)
  sound (plus s) lo hi n w x =
      let c = plus_taken s w x in
      (c.0, c.1, c.2, sound s lo hi n c.0 c.3, each_map (sound s lo hi n) c.1 c.4)
  sound (opt s) lo hi n w x = ⊎_elim (λ y. inl y) (λ y. inr (sound s lo hi n w y)) (opt_taken s w x)
