-- The order of patterns is strict and total, and the extensions of a pattern stand together, right after it.
use Rattle.std.proofs.Common.{◌≡◌, ℕ, ◌<◌, ◌≤◌, ◌⊎◌, List, [], ◌∷◌, ◌++◌, length, sym, refl, subst, inl, inr, arith}
use mathlib.Core.List.{cons≢nil}
use native.Mathlib.Decide.{dec_lt}
use Rattle.law.specs.Order.{Precedes, UpTo, Begins, IsStrictOrder}

pub strict : (p : List ℕ) → Precedes p p → ⊥
strict [] b = b
strict (x ∷ p) (inl l) = omega arith
strict (x ∷ p) (inr e) = strict p e.1

pub carried : (p q r : List ℕ) → Precedes p q → Precedes q r → Precedes p r
carried p q [] a b = b
carried [] q (z ∷ r) a b = tt
carried (x ∷ p) [] (z ∷ r) a b = absurd a
carried (x ∷ p) (y ∷ q) (z ∷ r) (inl l) (inl m) = inl (omega arith)
carried (x ∷ p) (y ∷ q) (z ∷ r) (inl l) (inr f) = inl (omega arith)
carried (x ∷ p) (y ∷ q) (z ∷ r) (inr e) (inl m) = inl (omega arith)
carried (x ∷ p) (y ∷ q) (z ∷ r) (inr e) (inr f) = inr (omega arith, carried p q r e.1 f.1)

pub numbers_compared : (x y : ℕ) → (x < y) ⊎ ((x ≡ y) ⊎ (y < x))
numbers_compared x y = go (dec_lt x y) (dec_lt y x)
  where
    go : Dec (x < y) → Dec (y < x) → (x < y) ⊎ ((x ≡ y) ⊎ (y < x))
    go (yes l) d = inl l
    go (no n) (yes g) = inr (inr g)
    go (no n) (no m) = inr (inl (omega arith))

pub total : (p q : List ℕ) → Precedes p q ⊎ ((p ≡ q) ⊎ Precedes q p)
total [] [] = inr (inl refl)
total [] (y ∷ q) = inl tt
total (x ∷ p) [] = inr (inr tt)
total (x ∷ p) (y ∷ q) = go (numbers_compared x y) (total p q)
  where
    go : (x < y) ⊎ ((x ≡ y) ⊎ (y < x)) → Precedes p q ⊎ ((p ≡ q) ⊎ Precedes q p) → Precedes (x ∷ p) (y ∷ q) ⊎ ((x ∷ p ≡ y ∷ q) ⊎ Precedes (y ∷ q) (x ∷ p))
    go (inl l) c = inl (inl l)
    go (inr (inr g)) c = inr (inr (inl g))
    go (inr (inl e)) (inl b) = inl (inr (e, b))
    go (inr (inl e)) (inr (inl f)) = inr (inl (cc))
    go (inr (inl e)) (inr (inr b)) = inr (inr (inr (sym e, b)))

pub is_strict_order : IsStrictOrder
is_strict_order = record { strict = strict; carried = carried; total = total }

pub compared : (p q : List ℕ) → UpTo p q ⊎ Precedes q p
compared p q = go (total p q)
  where
    go : Precedes p q ⊎ ((p ≡ q) ⊎ Precedes q p) → UpTo p q ⊎ Precedes q p
    go (inl b) = inl (inl b)
    go (inr (inl e)) = inl (inr e)
    go (inr (inr b)) = inr b

pub not_up_to : (p q : List ℕ) → Precedes p q → UpTo q p → ⊥
not_up_to p q b (inl c) = strict p (carried p q p b c)
not_up_to p q b (inr e) = strict p (rw e at b)

pub up_to_carried : (p q r : List ℕ) → UpTo p q → Precedes q r → Precedes p r
up_to_carried p q r (inl a) b = carried p q r a b
up_to_carried p q r (inr e) b = rw e b

pub up_to_trans : (p q r : List ℕ) → UpTo p q → UpTo q r → UpTo p r
up_to_trans p q r u (inl b) = inl (up_to_carried p q r u b)
up_to_trans p q r u (inr e) = subst (UpTo p) e u

-- a list comes before its extensions
precedes_longer : (p : List ℕ) (e : ℕ) (r : List ℕ) → Precedes p (p ++ (e ∷ r))
precedes_longer [] e r = tt
precedes_longer (x ∷ p) e r = inr (refl, precedes_longer p e r)

pub begins_precedes : (p q : List ℕ) → Begins p q → Precedes p q
begins_precedes p q b = subst (λ (z : List ℕ). Precedes p z) (sym b.2) (precedes_longer p b.0 b.1)

between_longer : (r p : List ℕ) (e : ℕ) (s : List ℕ) → Precedes r p → Precedes p (r ++ (e ∷ s)) → Begins r p
between_longer [] [] e s a b = absurd a
between_longer [] (y ∷ p) e s a b = (y, p, refl)
between_longer (x ∷ r) [] e s a b = absurd a
between_longer (x ∷ r) (y ∷ p) e s (inl l) (inl m) = absurd (omega arith)
between_longer (x ∷ r) (y ∷ p) e s (inl l) (inr f) = absurd (omega arith)
between_longer (x ∷ r) (y ∷ p) e s (inr g) (inl m) = absurd (omega arith)
between_longer (x ∷ r) (y ∷ p) e s (inr g) (inr f) =
    let i : Begins r p = between_longer r p e s g.1 f.1 in
    (i.0, i.1, cc)

-- what stands between a list and an extension of it is an extension too
pub between : (r p q : List ℕ) → Begins r q → Precedes r p → Precedes p q → Begins r p
between r p q b a c = between_longer r p b.0 b.1 a (subst (λ (z : List ℕ). Precedes p z) b.2 c)

-- nothing but the empty list comes up to the empty list
pub none_up_to_empty : (q : List ℕ) → 1 ≤ length q → UpTo q [] → ⊥
none_up_to_empty [] l u = omega arith
none_up_to_empty (x ∷ q) l (inl b) = b
none_up_to_empty (x ∷ q) l (inr e) = cons≢nil e

-- and everything else comes after it
pub empty_precedes : (q : List ℕ) → 1 ≤ length q → Precedes [] q
empty_precedes [] l = omega arith
empty_precedes (x ∷ q) l = tt
