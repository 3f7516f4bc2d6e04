-- Numbers in two and in four bytes, written and read back.
use Rattle.std.proofs.Common.{◌≡◌, ℕ, ◌/◌, ◌%◌, ◌<◌, List, [], ◌∷◌, length, get_or, arith}
use Rattle.bundle.specs.Numbers.{high_first, in_two, in_four}

-- what is written is read back
pub high_first_in_two : (n : ℕ) → high_first (in_two n) ≡ n
high_first_in_two n = omega arith

pub high_first_in_four : (n : ℕ) → high_first (in_four n) ≡ n
high_first_in_four n = omega arith

-- what is read is written back
pub in_two_high_first : (bs : List ℕ) → length bs ≡ 2 → ((i : ℕ) → i < 2 → get_or bs i 0 < 256) → in_two (high_first bs) ≡ bs
in_two_high_first [] l h = absurd (omega arith)
in_two_high_first (a ∷ []) l h = absurd (omega arith)
in_two_high_first (a ∷ b ∷ []) l h =
    let k : b < 256 = h 1 (omega arith) in
    let p : high_first (a ∷ b ∷ []) / 256 ≡ a = omega arith in
    let q : high_first (a ∷ b ∷ []) % 256 ≡ b = omega arith in
    cc
in_two_high_first (a ∷ b ∷ c ∷ bs) l h = absurd (omega arith)

pub in_four_high_first : (bs : List ℕ) → length bs ≡ 4 → ((i : ℕ) → i < 4 → get_or bs i 0 < 256) → in_four (high_first bs) ≡ bs
in_four_high_first [] l h = absurd (omega arith)
in_four_high_first (a ∷ []) l h = absurd (omega arith)
in_four_high_first (a ∷ b ∷ []) l h = absurd (omega arith)
in_four_high_first (a ∷ b ∷ c ∷ []) l h = absurd (omega arith)
in_four_high_first (a ∷ b ∷ c ∷ d ∷ []) l h =
    let n = high_first (a ∷ b ∷ c ∷ d ∷ []) in
    let i : b < 256 = h 1 (omega arith) in
    let j : c < 256 = h 2 (omega arith) in
    let k : d < 256 = h 3 (omega arith) in
    let p : n / 16777216 ≡ a = omega arith in
    let q : n / 65536 % 256 ≡ b = omega arith in
    let r : n / 256 % 256 ≡ c = omega arith in
    let s : n % 256 ≡ d = omega arith in
    cc
in_four_high_first (a ∷ b ∷ c ∷ d ∷ e ∷ bs) l h = absurd (omega arith)
