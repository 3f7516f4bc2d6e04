-- The first level: every tape at its first place.
use Rattle.std.proofs.Common.{◌≡◌, ℕ, zero, suc, ◌+◌, ◌<◌, List, [], ◌∷◌, ◌++◌, length, get_or, sym, refl, ap, ◌∙◌, append_assoc, append-nil, add-zero, add-one, arith}
use Rattle.event.specs.declared.order.Order.{Order}
use Rattle.trail.specs.Projection.{projected_from, projection}
use Rattle.trail.specs.Levels.{entries}

-- the entries of the first n tapes
abbrev pub roots : ℕ → List (ℕ × ℕ)
roots zero = []
roots (suc n) = roots n ++ (n, 0) ∷ []

-- rows that number the first n tapes, each at its first place
pub roots_laid : (tapes places : List ℕ) (n : ℕ) → ((k : ℕ) → k < n → get_or tapes k 0 ≡ k) → ((k : ℕ) → k < n → get_or places k 0 ≡ 0) → entries tapes places 0 n ≡ roots n
roots_laid tapes places zero numbered first = refl
roots_laid tapes places (suc n) numbered first =
    let z : 0 + n ≡ n = omega arith in
    rw (z, roots_laid tapes places n (λ k h. numbered k (omega arith)) (λ k h. first k (omega arith)), numbered n (omega arith), first n (omega arith))

module _ {K : Type 0} (order : K → K → Order) where
  roots_from : (n : ℕ) (rest : List (List K)) → roots n ++ projected_from order n rest [] ≡ roots (n + length rest)
  roots_from n [] = rw (append-nil, add-zero)
  roots_from n (tape ∷ rest) =
      let z : n + suc (length rest) ≡ n + 1 + length rest = omega arith in
      rw z
      (sym (append_assoc (roots n) ((n, 0) ∷ []) (projected_from order (n + 1) rest []))
      ∙ ap (λ (level : List (ℕ × ℕ)). level ++ projected_from order (n + 1) rest []) (rw add-one)
      ∙ roots_from (n + 1) rest)

  -- all of them are the projection of the empty list
  pub roots_all : (tapes : List (List K)) (n : ℕ) → n ≡ length tapes → roots n ≡ projection order tapes []
  roots_all tapes n all = let z : 0 + length tapes ≡ n = omega arith in rw (← z) (sym (roots_from 0 tapes))
