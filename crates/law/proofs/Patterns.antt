-- The tests on patterns decide what they are named after.
use Rattle.std.proofs.Common.{◌≡◌, ℕ, ◌<◌, ◌≤◌, true, false, ◌&&◌, eqb, leb, ◌⊎◌, List, [], ◌∷◌, Decides, refl, inl, inr, arith}
use mathlib.Core.Bool.{false≢true}
use mathlib.Core.List.{nil≢cons, cons≢nil}
use Rattle.std.proofs.lemmas.Bool.Decides.{Decides-eqb, Decides-ltb, Decides-and, Decides-or, Decides-like, leb_tells}
use Rattle.law.specs.Order.{Precedes, Begins}
use Rattle.law.specs.Transcripts.{Among}
use Rattle.law.specs.Answers.{precedes, begins, same, among}

decides_no : {P : Type 0} → (P → ⊥) → Decides false P
decides_no n = (λ e. absurd (false≢true e), λ p. absurd (n p))

decides_yes : {P : Type 0} → P → Decides true P
decides_yes p = (λ e. p, λ q. refl)

pub decides_leb : (a b : ℕ) → Decides (leb a b) (a ≤ b)
decides_leb a b = go (leb_tells a b)
  where
    go : ((leb a b ≡ true) × (a ≤ b)) ⊎ ((leb a b ≡ false) × (b < a)) → Decides (leb a b) (a ≤ b)
    go (inl x) = (λ e. x.1, λ l. x.0)
    go (inr x) = rw x.0 (decides_no (λ l. omega arith))

pub decides_precedes : (p q : List ℕ) → Decides (precedes p q) (Precedes p q)
decides_precedes p [] = decides_no (λ b. b)
decides_precedes [] (y ∷ q) = decides_yes tt
decides_precedes (x ∷ p) (y ∷ q) =
    Decides-or _ _ (Decides-ltb x y) (Decides-and _ _ (Decides-eqb x y) (decides_precedes p q))

pub decides_begins : (p q : List ℕ) → Decides (begins p q) (Begins p q)
decides_begins [] [] = decides_no (λ b. nil≢cons b.2)
decides_begins (x ∷ p) [] = decides_no (λ b. nil≢cons b.2)
decides_begins [] (y ∷ q) = decides_yes (y, q, refl)
decides_begins (x ∷ p) (y ∷ q) =
    Decides-like (eqb x y && begins p q) there back (Decides-and _ _ (Decides-eqb x y) (decides_begins p q))
  where
    there : (x ≡ y) × Begins p q → Begins (x ∷ p) (y ∷ q)
    there b = (b.1.0, b.1.1, cc)

    back : Begins (x ∷ p) (y ∷ q) → (x ≡ y) × Begins p q
    back b = let e = b.2 in (cc, (b.0, b.1, cc))

pub decides_same : (p q : List ℕ) → Decides (same p q) (p ≡ q)
decides_same [] [] = decides_yes refl
decides_same [] (y ∷ q) = decides_no (λ e. nil≢cons e)
decides_same (x ∷ p) [] = decides_no (λ e. cons≢nil e)
decides_same (x ∷ p) (y ∷ q) =
    Decides-like (eqb x y && same p q) (λ e. let e0 = e.0 in let e1 = e.1 in cc) (λ e. (cc, cc))
    (Decides-and _ _ (Decides-eqb x y) (decides_same p q))

pub decides_among : (q : List ℕ) (ps : List (List ℕ)) → (among q ps ≡ true → Among q ps) × (Among q ps → among q ps ≡ true)
decides_among q [] = decides_no (λ i. i)
decides_among q (p ∷ ps) = Decides-or _ _ (decides_same q p) (decides_among q ps)
