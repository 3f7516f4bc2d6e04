-- `patterns n l` has every pattern, and in rising order; `first` finds the first of them.
use Rattle.std.proofs.Common.{◌≡◌, ℕ, zero, suc, ◌+◌, ◌<◌, ◌≤◌, Bool, true, false, cond, ◌⊎◌, List, [], ◌∷◌, ◌++◌, map, Some, None, sym, refl, subst, inl, inr, arith}
use mathlib.Core.Bool.{false≢true}
use native.Mathlib.Decide.{ℕ_discrete}
use Rattle.law.specs.Order.{Precedes, IsPattern}
use Rattle.law.specs.Transcripts.{Among}
use Rattle.law.specs.Answers.{count_from, spread, patterns, first}
use Rattle.law.specs.Lists.{Ascending}
use Rattle.law.proofs.Held.{some_not_none}
use Rattle.law.proofs.Order.{strict, not_up_to, empty_precedes}

-- each is below all that stand behind it
abbrev Counting : List ℕ → Type 0
Counting [] = Unit {0}
Counting (e ∷ es) = ((f : ℕ) → Among f es → e < f) × Counting es

counted_from : (k n e : ℕ) → Among e (count_from k n) → (k ≤ e) × (e < k + n)
counted_from k zero e i = absurd i
counted_from k (suc n) e (inl f) = omega (arith)
counted_from k (suc n) e (inr i) = let b = counted_from (suc k) n e i in omega (arith)

count_in : (k n e : ℕ) → k ≤ e → e < k + n → Among e (count_from k n)
count_in k zero e a b = omega arith
count_in k (suc n) e a b = go (ℕ_discrete e k) (count_in (suc k) n e)
  where
    go : Dec (e ≡ k) → (suc k ≤ e → e < suc k + n → Among e (count_from (suc k) n)) → Among e (count_from k (suc n))
    go (yes f) ih = inl f
    go (no f) ih = inr (ih (omega arith) (omega arith))

counting : (k n : ℕ) → Counting (count_from k n)
counting k zero = tt
counting k (suc n) = (λ f i. (counted_from (suc k) n f i).0, counting (suc k) n)

module _ {A : Type 0} where
  pub among_append : (q : A) (ps qs : List A) → Among q (ps ++ qs) → Among q ps ⊎ Among q qs
  among_append q [] qs i = inr i
  among_append q (p ∷ ps) qs (inl e) = inl (inl e)
  among_append q (p ∷ ps) qs (inr i) = go (among_append q ps qs i)
    where
      go : Among q ps ⊎ Among q qs → Among q (p ∷ ps) ⊎ Among q qs
      go (inl j) = inl (inr j)
      go (inr j) = inr j

  pub among_left : (q : A) (ps qs : List A) → Among q ps → Among q (ps ++ qs)
  among_left q [] qs i = absurd i
  among_left q (p ∷ ps) qs (inl e) = inl e
  among_left q (p ∷ ps) qs (inr i) = inr (among_left q ps qs i)

  pub among_right : (q : A) (ps qs : List A) → Among q qs → Among q (ps ++ qs)
  among_right q [] qs i = i
  among_right q (p ∷ ps) qs i = inr (among_right q ps qs i)

among_map : (e : ℕ) (p : List ℕ) (ps : List (List ℕ)) → Among p ps → Among (e ∷ p) (map (λ r. e ∷ r) ps)
among_map e p [] i = absurd i
among_map e p (r ∷ ps) (inl f) = inl (cc)
among_map e p (r ∷ ps) (inr i) = inr (among_map e p ps i)

map_among : (e : ℕ) (q : List ℕ) (ps : List (List ℕ)) → Among q (map (λ r. e ∷ r) ps) → (p : List ℕ) × Among p ps × (q ≡ e ∷ p)
map_among e q [] i = absurd i
map_among e q (r ∷ ps) (inl f) = (r, inl refl, f)
map_among e q (r ∷ ps) (inr i) = let x = map_among e q ps i in (x.0, inr x.1, x.2)

spread_among : (q : List ℕ) (es : List ℕ) (ps : List (List ℕ)) → Among q (spread es ps) → (e : ℕ) × (p : List ℕ) × Among e es × Among p ps × (q ≡ e ∷ p)
spread_among q [] ps i = absurd i
spread_among q (e ∷ es) ps i = go (among_append q (map (λ p. e ∷ p) ps) (spread es ps) i) (spread_among q es ps)
  where
    go : Among q (map (λ p. e ∷ p) ps) ⊎ Among q (spread es ps) → (Among q (spread es ps) → (f : ℕ) × (p : List ℕ) × Among f es × Among p ps × (q ≡ f ∷ p)) → (f : ℕ) × (p : List ℕ) × Among f (e ∷ es) × Among p ps × (q ≡ f ∷ p)
    go (inl j) ih = let x = map_among e q ps j in (e, x.0, inl refl, x.1, x.2)
    go (inr j) ih = let x = ih j in (x.0, x.1, inr x.2, x.3, x.4)

among_spread : (e : ℕ) (p : List ℕ) (es : List ℕ) (ps : List (List ℕ)) → Among e es → Among p ps → Among (e ∷ p) (spread es ps)
among_spread e p [] ps i j = absurd i
among_spread e p (f ∷ es) ps (inl g) j =
    among_left (e ∷ p) (map (λ r. f ∷ r) ps) (spread es ps) (subst (λ (z : ℕ). Among (e ∷ p) (map (λ r. z ∷ r) ps)) g (among_map e p ps j))
among_spread e p (f ∷ es) ps (inr i) j = among_right (e ∷ p) (map (λ r. f ∷ r) ps) (spread es ps) (among_spread e p es ps i j)

-- the list has nothing but patterns
pub sound : (n l : ℕ) (q : List ℕ) → Among q (patterns n l) → IsPattern n l q
sound n zero q i = absurd i
sound n (suc l) q i = go (spread_among q (count_from 0 n) ([] ∷ patterns n l) i) (sound n l)
  where
    go : (e : ℕ) × (p : List ℕ) × Among e (count_from 0 n) × Among p ([] ∷ patterns n l) × (q ≡ e ∷ p) → ((p : List ℕ) → Among p (patterns n l) → IsPattern n l p) → IsPattern n (suc l) q
    go x ih = subst (IsPattern n (suc l)) (sym x.4) (there x.1 x.3)
      where
        below : x.0 < n
        below = omega (arith, counted_from 0 n x.0 x.2)

        there : (p : List ℕ) → (p ≡ []) ⊎ Among p (patterns n l) → IsPattern n (suc l) (x.0 ∷ p)
        there p (inl f) = rw f (omega arith, omega arith, (below, tt))
        there p (inr j) = let k = ih p j in (omega arith, omega arith, (below, k.2))

-- and it has them all
pub complete : (n l : ℕ) (q : List ℕ) → IsPattern n l q → Among q (patterns n l)
complete n zero q k = absurd (omega arith)
complete n (suc l) [] k = absurd (omega arith)
complete n (suc l) (e ∷ []) k =
    among_spread e [] (count_from 0 n) ([] ∷ patterns n l) (count_in 0 n e (omega arith) (omega arith)) (inl refl)
complete n (suc l) (e ∷ (f ∷ p)) k =
    among_spread e (f ∷ p) (count_from 0 n) ([] ∷ patterns n l) (count_in 0 n e (omega arith) (omega arith))
    (inr (complete n l (f ∷ p) (omega arith, omega arith, k.2.1)))

ascending_map : (e : ℕ) (ps : List (List ℕ)) → Ascending ps → Ascending (map (λ p. e ∷ p) ps)
ascending_map e [] a = tt
ascending_map e (p ∷ ps) a = (λ q i. go q (map_among e q ps i), ascending_map e ps a.1)
  where
    go : (q : List ℕ) → (r : List ℕ) × Among r ps × (q ≡ e ∷ r) → Precedes (e ∷ p) q
    go q x = subst (Precedes (e ∷ p)) (sym x.2) (inr (refl, a.0 x.0 x.1))

pub ascending_append : (ps qs : List (List ℕ)) → Ascending ps → Ascending qs → ((p q : List ℕ) → Among p ps → Among q qs → Precedes p q) → Ascending (ps ++ qs)
ascending_append [] qs a b c = b
ascending_append (p ∷ ps) qs a b c = (λ q i. go q (among_append q ps qs i), ascending_append ps qs a.1 b (λ r q i j. c r q (inr i) j))
  where
    go : (q : List ℕ) → Among q ps ⊎ Among q qs → Precedes p q
    go q (inl i) = a.0 q i
    go q (inr j) = c p q (inl refl) j

ascending_spread : (es : List ℕ) (ps : List (List ℕ)) → Counting es → Ascending ps → Ascending (spread es ps)
ascending_spread [] ps c a = tt
ascending_spread (e ∷ es) ps c a =
    ascending_append (map (λ p. e ∷ p) ps) (spread es ps) (ascending_map e ps a) (ascending_spread es ps c.1 a)
    (λ p q i j. go p q (map_among e p ps i) (spread_among q es ps j))
  where
    go : (p q : List ℕ) → (r : List ℕ) × Among r ps × (p ≡ e ∷ r) → (f : ℕ) × (r : List ℕ) × Among f es × Among r ps × (q ≡ f ∷ r) → Precedes p q
    go p q x y = rw (x.2, y.4) (inl (c.0 y.0 y.2))

pub ascending : (n l : ℕ) → Ascending (patterns n l)
ascending n zero = tt
ascending n (suc l) =
    ascending_spread (count_from 0 n) ([] ∷ patterns n l) (counting 0 n)
    (λ q i. empty_precedes q (sound n l q i).0, ascending n l)

-- a choice, by its test
cond_cases : {A : Type 0} (b : Bool) (x y z : A) → cond b x y ≡ z → ((b ≡ true) × (x ≡ z)) ⊎ ((b ≡ false) × (y ≡ z))
cond_cases true x y z e = inl (refl, e)
cond_cases false x y z e = inr (refl, e)

pub first_none : (f : List ℕ → Bool) (ps : List (List ℕ)) → first f ps ≡ None → (q : List ℕ) → Among q ps → f q ≡ true → ⊥
first_none f [] e q i t = i
first_none f (p ∷ ps) e q i t = go (cond_cases (f p) (Some p) (first f ps) None e) i (λ g j. first_none f ps g q j t)
  where
    go : ((f p ≡ true) × (Some p ≡ None)) ⊎ ((f p ≡ false) × (first f ps ≡ None)) → (q ≡ p) ⊎ Among q ps → (first f ps ≡ None → Among q ps → ⊥) → ⊥
    go (inl x) i ih = some_not_none p x.1
    go (inr x) (inl g) ih = false≢true (cc)
    go (inr x) (inr j) ih = ih x.1 j

pub first_some : (f : List ℕ → Bool) (ps : List (List ℕ)) (p : List ℕ) → Ascending ps → first f ps ≡ Some p → Among p ps × (f p ≡ true) × ((q : List ℕ) → Among q ps → Precedes q p → f q ≡ true → ⊥)
first_some f [] p a e = absurd (some_not_none p (sym e))
first_some f (r ∷ ps) p a e = go (cond_cases (f r) (Some r) (first f ps) (Some p) e) (first_some f ps p a.1)
  where
    go : ((f r ≡ true) × (Some r ≡ Some p)) ⊎ ((f r ≡ false) × (first f ps ≡ Some p)) → (first f ps ≡ Some p → Among p ps × (f p ≡ true) × ((q : List ℕ) → Among q ps → Precedes q p → f q ≡ true → ⊥)) → Among p (r ∷ ps) × (f p ≡ true) × ((q : List ℕ) → Among q (r ∷ ps) → Precedes q p → f q ≡ true → ⊥)
    go (inl x) ih = let g : r ≡ p = cc in (inl (sym g), cc, least g)
      where
        least : r ≡ p → (q : List ℕ) → (q ≡ r) ⊎ Among q ps → Precedes q p → f q ≡ true → ⊥
        least g q (inl i) b t = strict p (subst (λ (z : List ℕ). Precedes z p) (cc) b)
        least g q (inr i) b t = not_up_to q p b (inl (rw g at (a.0 q i)))
    go (inr x) ih = let y = ih x.1 in (inr y.0, y.1, least y.2)
      where
        least : ((q : List ℕ) → Among q ps → Precedes q p → f q ≡ true → ⊥) → (q : List ℕ) → (q ≡ r) ⊎ Among q ps → Precedes q p → f q ≡ true → ⊥
        least y q (inl i) b t = false≢true (cc)
        least y q (inr i) b t = y q i b t
