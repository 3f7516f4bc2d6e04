-- One level more, and one place more.
use Rattle.std.proofs.Common.{ℕ, ◌+◌, ◌<◌, ◌≤◌, ◌≢◌, List, length, get_or, set, arith, get_or-set_other, get_or-set_same, below_more}
use Rattle.trail.specs.Levels.{Step, Steps}

-- a level of 512 entries at most behind the deepest
pub steps_more : (bounds : List ℕ) (depth next : ℕ) → depth + 1 + 1 < length bounds → Steps bounds depth → get_or bounds (depth + 1) 0 ≤ next → next ≤ get_or bounds (depth + 1) 0 + 512 → Steps (set bounds (depth + 1 + 1) next) (depth + 1)
steps_more bounds depth next room steps low high k le =
    below_more
    (Step (set bounds (depth + 1 + 1) next))
    (depth + 1)
    (λ k lt.
    let p : k ≢ depth + 1 + 1 = omega arith in
    let q : k + 1 ≢ depth + 1 + 1 = omega arith in
    rw (get_or-set_other bounds (depth + 1 + 1) k, get_or-set_other bounds (depth + 1 + 1) (k + 1)) (steps k (omega arith)))
    (let p : depth + 1 ≢ depth + 1 + 1 = omega arith in
    let s = steps depth (omega arith) in
    rw (get_or-set_other bounds (depth + 1 + 1) (depth + 1), get_or-set_same bounds (depth + 1 + 1)) (low, high, omega (arith, s.2)))
    k
    (omega arith)

-- a place of the lexicon behind the others
pub known_more : (list : List ℕ) (depth place most : ℕ) → depth < length list → ((k : ℕ) → k < depth → get_or list k 0 < most) → place < most → (k : ℕ) → k < depth + 1 → get_or (set list depth place) k 0 < most
known_more list depth place most room known new =
    below_more
    (λ (k : ℕ). get_or (set list depth place) k 0 < most)
    depth
    (λ k lt. let ne : k ≢ depth = omega arith in rw get_or-set_other (known k lt))
    (rw get_or-set_same new)
