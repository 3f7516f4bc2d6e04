-- A walk over the lists in their order: down to the first child, over to the next sibling, up to the parent. Nothing lies between.
use Rattle.std.proofs.Common.{◌≡◌, ℕ, suc, ◌+◌, ◌<◌, ◌≤◌, List, [], ◌∷◌, ◌++◌, length, refl, ap, subst, inl, inr, append_assoc, arith, length-append}
use mathlib.Core.List.{cons≢nil, nil≢cons, head-eq_of_cons-eq, tail-eq_of_cons-eq}
use native.Mathlib.Decide.{ℕ_discrete}
use Rattle.law.specs.Order.{Precedes, UpTo, Begins, AllBelow, IsFirst}
use Rattle.law.proofs.Order.{not_up_to}

-- a single place comes up to each list that starts with it or with a greater one
single_up_to : (a y : ℕ) (q : List ℕ) → a ≤ y → UpTo (a ∷ []) (y ∷ q)
single_up_to a y q l = go (ℕ_discrete a y) q
  where
    go : Dec (a ≡ y) → (q : List ℕ) → UpTo (a ∷ []) (y ∷ q)
    go (no n) q = inl (inl (omega arith))
    go (yes e) [] = inr (cc)
    go (yes e) (z ∷ q) = inl (inr (e, tt))

cons_up_to : (x y : ℕ) (p q : List ℕ) → x ≡ y → UpTo p q → UpTo (x ∷ p) (y ∷ q)
cons_up_to x y p q e (inl b) = inl (inr (e, b))
cons_up_to x y p q e (inr f) = inr (cc)

-- the first child is the first after its parent
pub child_first : (p q : List ℕ) → Precedes p q → UpTo (p ++ (0 ∷ [])) q
child_first p [] b = absurd b
child_first [] (y ∷ q) b = single_up_to 0 y q (omega arith)
child_first (x ∷ p) (y ∷ q) (inl l) = inl (inl l)
child_first (x ∷ p) (y ∷ q) (inr e) = cons_up_to x y (p ++ (0 ∷ [])) q e.0 (child_first p q e.1)

cons_begins : (x y : ℕ) (p q : List ℕ) → x ≡ y → Begins p q → Begins (x ∷ p) (y ∷ q)
cons_begins x y p q e b = (b.0, b.1, cc)

-- the next sibling is the first after a list and all that extends it
pub sibling_first : (r : List ℕ) (x : ℕ) (q : List ℕ) → Precedes (r ++ (x ∷ [])) q → (Begins (r ++ (x ∷ [])) q → ⊥) → UpTo (r ++ (suc x ∷ [])) q
sibling_first [] x [] b n = absurd b
sibling_first [] x (y ∷ q) (inl l) n = single_up_to (suc x) y q l
sibling_first [] x (y ∷ []) (inr e) n = absurd e.1
sibling_first [] x (y ∷ (z ∷ q)) (inr e) n = absurd (n (z, q, let f = e.0 in cc))
sibling_first (z ∷ r) x [] b n = absurd b
sibling_first (z ∷ r) x (y ∷ q) (inl l) n = inl (inl l)
sibling_first (z ∷ r) x (y ∷ q) (inr e) n =
    cons_up_to z y (r ++ (suc x ∷ [])) q e.0
    (sibling_first r x q e.1 (λ b. n (cons_begins z y (r ++ (x ∷ [])) q e.0 b)))

cancel : (r : List ℕ) (a e : ℕ) (s : List ℕ) → UpTo (r ++ (a ∷ [])) (r ++ (e ∷ s)) → a ≤ e
cancel [] a e s (inl (inl l)) = omega arith
cancel [] a e s (inl (inr f)) = omega arith
cancel [] a e s (inr f) = let g : a ≡ e = head-eq_of_cons-eq f in omega arith
cancel (z ∷ r) a e s (inl (inl l)) = absurd (omega arith)
cancel (z ∷ r) a e s (inl (inr f)) = cancel r a e s (inl f.1)
cancel (z ∷ r) a e s (inr f) = cancel r a e s (inr (tail-eq_of_cons-eq f))

pub below_at : (n : ℕ) (r : List ℕ) (e : ℕ) (s : List ℕ) → AllBelow n (r ++ (e ∷ s)) → e < n
below_at n [] e s b = b.0
below_at n (z ∷ r) e s b = below_at n r e s b.1

pub below_snoc : (n : ℕ) (p : List ℕ) (x : ℕ) → AllBelow n p → x < n → AllBelow n (p ++ (x ∷ []))
below_snoc n [] x a l = (l, tt)
below_snoc n (y ∷ p) x a l = (a.0, below_snoc n p x a.1 l)

pub below_front : (n : ℕ) (p : List ℕ) (x : ℕ) → AllBelow n (p ++ (x ∷ [])) → AllBelow n p
below_front n [] x a = tt
below_front n (y ∷ p) x a = (a.0, below_front n p x a.1)

pub length_snoc : (p : List ℕ) (x : ℕ) → length (p ++ (x ∷ [])) ≡ length p + 1
length_snoc p x = length-append p (x ∷ [])

pub snoc_is : (p r : List ℕ) (i x : ℕ) → p ++ (i ∷ []) ≡ r ++ (x ∷ []) → (p ≡ r) × (i ≡ x)
snoc_is [] [] i x e = (refl, head-eq_of_cons-eq e)
snoc_is [] (z ∷ []) i x e = absurd (nil≢cons (tail-eq_of_cons-eq e))
snoc_is [] (z ∷ (w ∷ r)) i x e = absurd (nil≢cons (tail-eq_of_cons-eq e))
snoc_is (y ∷ []) [] i x e = absurd (cons≢nil (tail-eq_of_cons-eq e))
snoc_is (y ∷ (w ∷ p)) [] i x e = absurd (cons≢nil (tail-eq_of_cons-eq e))
snoc_is (y ∷ p) (z ∷ r) i x e =
    let h : y ≡ z = head-eq_of_cons-eq e in
    let k = snoc_is p r i x (tail-eq_of_cons-eq e) in
    (let m = k.0 in cc, k.1)

pub snoc_some : (p : List ℕ) (x : ℕ) → p ++ (x ∷ []) ≡ [] → ⊥
snoc_some [] x e = cons≢nil e
snoc_some (y ∷ p) x e = cons≢nil e

-- a greater place after the same list comes later, whatever follows
pub later : (r : List ℕ) (x y : ℕ) (s t : List ℕ) → x < y → Precedes (r ++ (x ∷ s)) (r ++ (y ∷ t))
later [] x y s t l = inl l
later (z ∷ r) x y s t l = inr (refl, later r x y s t l)

pub later_up : (r : List ℕ) (x i : ℕ) → Precedes ((r ++ (x ∷ [])) ++ (i ∷ [])) (r ++ ((x + 1) ∷ []))
later_up r x i = rw append_assoc (later r x (x + 1) (i ∷ []) [] (omega arith))

pub begins_nil : (q : List ℕ) → 1 ≤ length q → Begins [] q
begins_nil [] l = absurd (omega arith)
begins_nil (y ∷ q) l = (y, q, refl)

-- past the last child, nothing extends the list
pub past_last : (n : ℕ) (p : List ℕ) (i : ℕ) (q : List ℕ) → n ≤ i → AllBelow n q → UpTo (p ++ (i ∷ [])) q → Begins p q → ⊥
past_last n p i q l a u b =
    let v = cancel p i b.0 b.1 (subst (UpTo (p ++ (i ∷ []))) b.2 u) in
    let w = below_at n p b.0 b.1 (subst (AllBelow n) b.2 a) in
    omega arith

-- an extension is longer
pub begins_longer : (p q : List ℕ) → Begins p q → length p < length q
begins_longer p q b = omega (arith, ap length b.2, length-append p (b.0 ∷ b.1))

-- a list that comes up to all of which P holds, and of which P holds, is the first
pub first_from : (P : List ℕ → Type 0) (c : List ℕ) → ((q : List ℕ) → P q → UpTo c q) → P c → IsFirst P c
first_from P c f p = (p, λ q b k. not_up_to q c b (f q k))
