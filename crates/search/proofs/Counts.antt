-- With each move over the lists, fewer turns are left.
use Rattle.std.proofs.Common.{◌≡◌, ℕ, zero, suc, pred, ◌+◌, ◌-◌, ◌*◌, ◌<◌, List, [], ◌∷◌, ◌++◌, length, add-mul, one-mul, add-one, arith}
use native.Mathlib.Nat.{sub-zero}
use Rattle.search.specs.Turns.{cost, left}

-- to the next sibling
pub falls_side : (n d : ℕ) (p : List ℕ) (i : ℕ) → i < n → left n d p (i + 1) < left n d p i
unfolding left cost
falls_side n zero [] i h = omega arith
falls_side n (suc d) [] i h =
    let m : n - i ≡ (n - (i + 1)) + 1 = omega arith in
    rw m (omega (arith, add-mul (n - (i + 1)) 1 (n * cost n d + 2), one-mul (n * cost n d + 2)))
falls_side n d (x ∷ p) i h = omega (arith, falls_side n (pred d) p i h)

-- down to the first child
pub falls_down : (n d : ℕ) (p : List ℕ) (i : ℕ) → i < n → length p < d → left n d (p ++ (i ∷ [])) 0 < left n d p i
unfolding left cost
falls_down n zero p i h l = absurd (omega arith)
falls_down n (suc d) [] i h l =
    let m : n - i ≡ (n - suc i) + 1 = omega arith in
    rw (m, sub-zero) (omega (arith, add-mul (n - suc i) 1 (n * cost n d + 2), one-mul (n * cost n d + 2)))
falls_down n (suc d) (x ∷ p) i h l = omega (arith, falls_down n d p i h (omega arith))

-- up to the parent's next sibling
pub falls_up : (n d : ℕ) (p : List ℕ) (x i : ℕ) → left n d p (x + 1) < left n d (p ++ (x ∷ [])) i
unfolding left
falls_up n d [] x i = rw add-one (omega arith)
falls_up n d (y ∷ p) x i = omega (arith, falls_up n (pred d) p x i)
