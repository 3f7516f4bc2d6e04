-- The automaton, as it reads, keeps the places that a walk may have come to.
use Rattle.std.proofs.Common.{◌≡◌, ℕ, ◌<◌, Bool, true, ◌&&◌, ◌↔◌, List, [], ◌∷◌, ◌++◌, Decides, sym, refl, subst, inl, ⊎_elim, arith}
use Rattle.std.proofs.lemmas.Bool.Decides.{Decides-below_or, Decides-not}
use Rattle.std.proofs.lemmas.Bool.{eq-eqb, and_from, and_parts, cases_lt}
use Rattle.regular.specs.Regex.{Regex, one, seq, alt, star, plus, opt, In, Barren}
use Rattle.regular.specs.Automata.{Numbered, is_first, is_last, is_follow, any_below, State, unread, at, ahead_of, ended_of, stepped, ran, after, stuck}
use Rattle.regular.specs.Theorems.{AutomatonTakes, AutomatonSticks}
use Rattle.regular.proofs.Walks.{Within, left_in, right_in, first_in, follow_in, Walks, Takes, complete, sound, join_seq, walk_right, walk_alt_left, walk_alt_right, walk_star}

pub some_below : (f : ℕ → Bool) (n : ℕ) → Decides (any_below f n) ((k : ℕ) × (k < n) × (f k ≡ true))
some_below f n = Decides-below_or f (λ k. f k ≡ true) (any_below f) (λ k. (λ h. h, λ h. h)) refl (λ _. refl) n

module _ {K : Type 0} (m : ℕ → K → Bool) where
  -- each expression has a list, and each place a way on to the end, if each place is met by an event
  abbrev Met : ℕ → ℕ → Type 0
  Met lo hi = (p : ℕ) → Within lo hi p → (e : K) × (m p e ≡ true)

  some_list : (t : Regex ℕ) (lo hi : ℕ) → Numbered t lo hi → Met lo hi → (w : List K) × In m t w
  some_list (one a) lo hi n met = let x = met a (omega arith) in (x.0 ∷ [], (x.0, refl, x.1))
  some_list (seq s t) lo hi n met =
      let x = some_list s lo n.0 n.1 (λ p i. met p (left_in t lo n.0 hi p n.2 i)) in
      let y = some_list t n.0 hi n.2 (λ p i. met p (right_in s lo n.0 hi p n.1 i)) in
      (x.0 ++ y.0, (x.0, y.0, refl, x.1, y.1))
  some_list (alt s t) lo hi n met =
      let x = some_list s lo n.0 n.1 (λ p i. met p (left_in t lo n.0 hi p n.2 i)) in
      (x.0, inl x.1)
  some_list (star s) lo hi n met = ([], ([], refl, tt))
  some_list (plus s) lo hi n met = let x = some_list s lo hi n met in (x.0 ++ [], (x.0, [], refl, x.1, tt))
  some_list (opt s) lo hi n met = ([], inl refl)

  way_on : (t : Regex ℕ) (lo hi : ℕ) → Numbered t lo hi → Met lo hi → (p : ℕ) → Within lo hi p → (w : List K) × Walks m t p w
  way_on (one a) lo hi n met p i = ([], eq-eqb a p (omega arith))
  way_on (seq s t) lo hi n met p i =
      ⊎_elim (λ l. before (way_on s lo n.0 n.1 (λ p i. met p (left_in t lo n.0 hi p n.2 i)) p (i.0, l)))
      (λ l. behind (way_on t n.0 hi n.2 (λ p i. met p (right_in s lo n.0 hi p n.1 i)) p (l, i.1)))
      (cases_lt p n.0)
    where
      before : (w : List K) × Walks m s p w → (w : List K) × Walks m (seq s t) p w
      before x =
          let y = some_list t n.0 hi n.2 (λ p i. met p (right_in s lo n.0 hi p n.1 i)) in
          (x.0 ++ y.0, join_seq m s t p x.0 y.0 x.1 (complete m t y.0 y.1))

      behind : (w : List K) × Walks m t p w → (w : List K) × Walks m (seq s t) p w
      behind x = (x.0, walk_right m s t p x.0 x.1)
  way_on (alt s t) lo hi n met p i =
      ⊎_elim (λ l. before (way_on s lo n.0 n.1 (λ p i. met p (left_in t lo n.0 hi p n.2 i)) p (i.0, l)))
      (λ l. behind (way_on t n.0 hi n.2 (λ p i. met p (right_in s lo n.0 hi p n.1 i)) p (l, i.1)))
      (cases_lt p n.0)
    where
      before : (w : List K) × Walks m s p w → (w : List K) × Walks m (alt s t) p w
      before x = (x.0, walk_alt_left m s t p x.0 x.1)

      behind : (w : List K) × Walks m t p w → (w : List K) × Walks m (alt s t) p w
      behind x = (x.0, walk_alt_right m s t p x.0 x.1)
  way_on (star s) lo hi n met p i = let x = way_on s lo hi n met p i in (x.0, walk_star m s p x.0 x.1)
  way_on (plus s) lo hi n met p i = let x = way_on s lo hi n met p i in (x.0, walk_star m s p x.0 x.1)
  way_on (opt s) lo hi n met p i = way_on s lo hi n met p i

  module _ (t : Regex ℕ) (n : ℕ) where
    pub run_append : (x : State) (u v : List K) → ran m t n x (u ++ v) ≡ ran m t n (ran m t n x u) v
    run_append x [] v = refl
    run_append x (e ∷ u) v = run_append (stepped m t n x e) u v

    abbrev From : (ℕ → Bool) → List K → Type 0
    From S w = (p : ℕ) × (p < n) × (S p ≡ true) × Walks m t p w

    run_from : (S : ℕ → Bool) (w : List K) → ended_of m t n (ran m t n (at S) w) ≡ true → From S w
    run_from S [] h =
        let y = (some_below (λ p. S p && is_last t p) n).0 h in
        let a = and_parts _ _ y.2 in
        (y.0, y.1, a.0, a.1)
    run_from S (e ∷ w) h =
        let y = run_from (λ q. ahead_of m t n (at S) q && m q e) w h in
        let a = and_parts _ _ y.2 in
        let b = (some_below (λ p. S p && is_follow t p y.0) n).0 a.0 in
        let c = and_parts _ _ b.2 in
        (b.0, b.1, c.0, (y.0, c.1, a.1, y.3))

    module _ (nt : Numbered t 0 n) where
      from_run : (S : ℕ → Bool) (w : List K) → From S w → ended_of m t n (ran m t n (at S) w) ≡ true
      from_run S [] x = (some_below (λ p. S p && is_last t p) n).1 (x.0, x.1, and_from _ _ x.2 x.3)
      from_run S (e ∷ w) x =
          let y = x.3 in
          from_run (λ q. ahead_of m t n (at S) q && m q e) w (
            y.0,
            (follow_in t 0 n x.0 y.0 nt y.1).1.1,
            and_from _ _ ((some_below (λ p. S p && is_follow t p y.0) n).1 (x.0, x.1, and_from _ _ x.2 y.1)) y.2,
            y.3,
          )

      takes_ended : (w : List K) → Takes m t w → ended_of m t n (after m t n w) ≡ true
      takes_ended [] x = x
      takes_ended (e ∷ w) x =
          from_run (λ q. is_first t q && m q e) w (x.0, (first_in t 0 n x.0 nt x.1).1, and_from _ _ x.1 x.2, x.3)

      ended_takes : (w : List K) → ended_of m t n (after m t n w) ≡ true → Takes m t w
      ended_takes [] h = h
      ended_takes (e ∷ w) h =
          let y = run_from (λ q. is_first t q && m q e) w h in
          let a = and_parts _ _ y.2 in
          (y.0, a.0, a.1, y.3)

      taken : (w : List K) → In m t w ↔ (ended_of m t n (after m t n w) ≡ true)
      taken w = (λ i. takes_ended w (complete m t w i), λ h. sound m t 0 n nt w (ended_takes w h))

      -- some place is ahead exactly when a longer list is in the language
      longer_ahead : (w : List K) (e : K) (v : List K) → In m t (w ++ (e ∷ v)) → (q : ℕ) × (q < n) × (ahead_of m t n (after m t n w) q ≡ true)
      longer_ahead w e v i =
          let h = subst (λ (z : State). ended_of m t n z ≡ true) (run_append unread w (e ∷ v)) ((taken (w ++ (e ∷ v))).0 i) in
          let y = run_from (λ q. ahead_of m t n (after m t n w) q && m q e) v h in
          (y.0, y.1, (and_parts _ _ y.2).0)

      ahead_longer : Met 0 n → (w : List K) → (q : ℕ) × (q < n) × (ahead_of m t n (after m t n w) q ≡ true) → (e : K) × (v : List K) × In m t (w ++ (e ∷ v))
      ahead_longer met w x =
          let y = met x.0 (omega arith) in
          let z = way_on t 0 n nt met x.0 (omega arith) in
          let h = from_run (λ q. ahead_of m t n (after m t n w) q && m q y.0) z.0 (x.0, x.1, and_from _ _ x.2 y.1, z.1) in
          (y.0, z.0, (taken (w ++ (y.0 ∷ z.0))).1 (subst (λ (z : State). ended_of m t n z ≡ true) (sym (run_append unread w (y.0 ∷ z.0))) h))

      stuck_tells : (w : List K) → Decides (stuck m t n (after m t n w)) ((q : ℕ) × (q < n) × (ahead_of m t n (after m t n w) q ≡ true) → ⊥)
      stuck_tells w = Decides-not _ (some_below (ahead_of m t n (after m t n w)) n)

      pub stuck_barren : (w : List K) → stuck m t n (after m t n w) ≡ true → Barren m t w
      stuck_barren w h e v i = (stuck_tells w).0 h (longer_ahead w e v i)

      barren_stuck : Met 0 n → (w : List K) → Barren m t w → stuck m t n (after m t n w) ≡ true
      barren_stuck met w b = (stuck_tells w).1 (λ x. let y = ahead_longer met w x in b y.0 y.1 y.2)

pub automaton_takes : {K : Type 0} → AutomatonTakes K
automaton_takes m t n nt w = taken m t n nt w

pub automaton_sticks : {K : Type 0} → AutomatonSticks K
automaton_sticks m t n nt met w = (barren_stuck m t n nt (λ p i. met p i.1) w, stuck_barren m t n nt w)
