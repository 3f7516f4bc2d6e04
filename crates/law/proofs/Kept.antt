-- What a test keeps of a list, what a list has turned round, and that rising lists with the same members are the same.
use Rattle.std.proofs.Common.{◌≡◌, ℕ, ◌<◌, ◌≤◌, Bool, true, false, cond, ◌⊎◌, List, [], ◌∷◌, ◌++◌, map, reverse, length, filter, sym, refl, ap, ◌∙◌, subst, inl, inr, arith}
use mathlib.Core.Bool.{false≢true}
use mathlib.Core.List.{reverse-cons, map-append}
use Rattle.law.specs.Order.{Precedes}
use Rattle.law.specs.Transcripts.{Among, Descending}
use Rattle.law.specs.Lists.{Ascending}
use Rattle.law.proofs.Order.{strict, carried}
use Rattle.law.proofs.Listed.{among_append, among_left, among_right, ascending_append}

module _ {A : Type 0} (f : A → Bool) where
  pub kept_among : (q : A) (ps : List A) → Among q (filter f ps) → Among q ps × (f q ≡ true)
  kept_among q [] i = absurd i
  kept_among q (p ∷ ps) i = go (f p) refl i (kept_among q ps)
    where
      behind : Among q ps × (f q ≡ true) → Among q (p ∷ ps) × (f q ≡ true)
      behind x = (inr x.0, x.1)

      go : (b : Bool) → f p ≡ b → Among q (cond b (p ∷ filter f ps) (filter f ps)) → (Among q (filter f ps) → Among q ps × (f q ≡ true)) → Among q (p ∷ ps) × (f q ≡ true)
      go true e (inl g) ih = (inl g, ap f g ∙ e)
      go true e (inr j) ih = behind (ih j)
      go false e j ih = behind (ih j)

  pub among_kept : (q : A) (ps : List A) → Among q ps → f q ≡ true → Among q (filter f ps)
  among_kept q [] i t = absurd i
  among_kept q (p ∷ ps) i t = go (f p) refl i (λ j. among_kept q ps j t)
    where
      go : (b : Bool) → f p ≡ b → (q ≡ p) ⊎ Among q ps → (Among q ps → Among q (filter f ps)) → Among q (cond b (p ∷ filter f ps) (filter f ps))
      go true e (inl g) ih = inl g
      go true e (inr j) ih = inr (ih j)
      go false e (inl g) ih = absurd (false≢true (sym e ∙ ap f (sym g) ∙ t))
      go false e (inr j) ih = ih j

pub ascending_kept : (f : List ℕ → Bool) (ps : List (List ℕ)) → Ascending ps → Ascending (filter f ps)
ascending_kept f [] a = tt
ascending_kept f (p ∷ ps) a = go (f p) (ascending_kept f ps a.1)
  where
    go : (b : Bool) → Ascending (filter f ps) → Ascending (cond b (p ∷ filter f ps) (filter f ps))
    go true ih = (λ q i. a.0 q (kept_among f q ps i).0, ih)
    go false ih = ih

-- a test that is true wherever another is keeps no less
kept_more : {A : Type 0} (f g : A → Bool) (ps : List A) → ((q : A) → f q ≡ true → g q ≡ true) → length (filter f ps) ≤ length (filter g ps)
kept_more f g [] k = omega arith
kept_more f g (p ∷ ps) k = go (f p) (g p) (k p) (kept_more f g ps k)
  where
    go : (b c : Bool) → (b ≡ true → c ≡ true) → length (filter f ps) ≤ length (filter g ps) → length (cond b (p ∷ filter f ps) (filter f ps)) ≤ length (cond c (p ∷ filter g ps) (filter g ps))
    go true true l ih = omega arith
    go true false l ih = absurd (false≢true (l refl))
    go false true l ih = omega arith
    go false false l ih = ih

-- and keeps more if it is true of one of which the other is false
pub kept_falls : {A : Type 0} (f g : A → Bool) (ps : List A) (q : A) → ((r : A) → f r ≡ true → g r ≡ true) → Among q ps → f q ≡ false → g q ≡ true → length (filter f ps) < length (filter g ps)
kept_falls f g [] q k i n t = absurd i
kept_falls f g (p ∷ ps) q k i n t = go (f p) (g p) (k p) refl refl i (λ j. kept_falls f g ps q k j n t)
  where
    go : (b c : Bool) → (b ≡ true → c ≡ true) → f p ≡ b → g p ≡ c → (q ≡ p) ⊎ Among q ps → (Among q ps → length (filter f ps) < length (filter g ps)) → length (cond b (p ∷ filter f ps) (filter f ps)) < length (cond c (p ∷ filter g ps) (filter g ps))
    go true c l e d (inl z) ih = absurd (false≢true (sym n ∙ ap f z ∙ e))
    go true true l e d (inr j) ih = omega (arith, ih j)
    go true false l e d (inr j) ih = absurd (false≢true (l refl))
    go false true l e d (inl z) ih = omega (arith, kept_more f g ps k)
    go false true l e d (inr j) ih = omega (arith, ih j)
    go false false l e d (inl z) ih = absurd (false≢true (sym d ∙ ap g (sym z) ∙ t))
    go false false l e d (inr j) ih = ih j

module _ {A : Type 0} where
  pub among_reverse : (q : A) (ps : List A) → Among q ps → Among q (reverse ps)
  among_reverse q [] i = absurd i
  among_reverse q (p ∷ ps) i = rw (reverse-cons p ps) (go i (among_reverse q ps))
    where
      go : (q ≡ p) ⊎ Among q ps → (Among q ps → Among q (reverse ps)) → Among q (reverse ps ++ (p ∷ []))
      go (inl e) ih = among_right q (reverse ps) (p ∷ []) (inl e)
      go (inr j) ih = among_left q (reverse ps) (p ∷ []) (ih j)

  pub reverse_among : (q : A) (ps : List A) → Among q (reverse ps) → Among q ps
  reverse_among q [] i = i
  reverse_among q (p ∷ ps) i = go (among_append q (reverse ps) (p ∷ []) (rw (reverse-cons p ps) at i)) (reverse_among q ps)
    where
      go : Among q (reverse ps) ⊎ Among q (p ∷ []) → (Among q (reverse ps) → Among q ps) → Among q (p ∷ ps)
      go (inl j) ih = inr (ih j)
      go (inr (inl e)) ih = inl e
      go (inr (inr j)) ih = absurd j

  pub map_reverse : {B : Type 0} (g : A → B) (xs : List A) → map g (reverse xs) ≡ reverse (map g xs)
  map_reverse g [] = refl
  map_reverse {B = B} g (x ∷ xs) =
      ap (map g) (reverse-cons x xs)
      ∙ map-append g (reverse xs) (x ∷ [])
      ∙ ap (λ (ys : List B). ys ++ (g x ∷ [])) (map_reverse g xs)
      ∙ sym (reverse-cons (g x) (map g xs))

-- what falls, turned round, rises
pub ascending_reverse : (ps : List (List ℕ)) → Descending ps → Ascending (reverse ps)
ascending_reverse [] d = tt
ascending_reverse (p ∷ ps) d =
    rw (reverse-cons p ps)
    (ascending_append (reverse ps) (p ∷ []) (ascending_reverse ps d.1) (λ q i. absurd i, tt)
    (λ r q i j. last r q i j))
  where
    last : (r q : List ℕ) → Among r (reverse ps) → (q ≡ p) ⊎ ⊥ → Precedes r q
    last r q i (inl e) = subst (Precedes r) (sym e) (d.0 r (reverse_among r ps i))
    last r q i (inr x) = absurd x

-- two rising lists with the same members are the same
pub same_members : (ps qs : List (List ℕ)) → Ascending ps → Ascending qs → ((r : List ℕ) → Among r ps → Among r qs) → ((r : List ℕ) → Among r qs → Among r ps) → ps ≡ qs
same_members [] [] a b f g = refl
same_members [] (q ∷ qs) a b f g = absurd (g q (inl refl))
same_members (p ∷ ps) [] a b f g = absurd (f p (inl refl))
same_members (p ∷ ps) (q ∷ qs) a b f g =
    let e : p ≡ q = first (f p (inl refl)) (g q (inl refl)) in
    let t : ps ≡ qs = same_members ps qs a.1 b.1 (rest e) (back e) in
    cc
  where
    first : (p ≡ q) ⊎ Among p qs → (q ≡ p) ⊎ Among q ps → p ≡ q
    first (inl e) j = e
    first (inr i) (inl e) = sym e
    first (inr i) (inr j) = absurd (strict p (carried p q p (a.0 q j) (b.0 p i)))

    behind : (x : List ℕ) (xs : List (List ℕ)) (r : List ℕ) → Precedes x r → (r ≡ x) ⊎ Among r xs → Among r xs
    behind x xs r l (inl e) = absurd (strict r (subst (λ (z : List ℕ). Precedes z r) (sym e) l))
    behind x xs r l (inr i) = i

    rest : p ≡ q → (r : List ℕ) → Among r ps → Among r qs
    rest e r i = behind q qs r (subst (λ (z : List ℕ). Precedes z r) e (a.0 r i)) (f r (inr i))

    back : p ≡ q → (r : List ℕ) → Among r qs → Among r ps
    back e r i = behind p ps r (subst (λ (z : List ℕ). Precedes z r) (sym e) (b.0 r i)) (g r (inr i))
