-- Sets of places.
use Rattle.std.specs.Prelude.{◌≡◌, ℕ, ◌<◌, Bool, true, false, not, ◌&&◌, ◌||◌, ◌==◌, List, slice_index_or}
use Rattle.std.specs.Int.{bit_at}
use Rattle.regular.specs.declared.set.Places.{Places}

-- whether the place i is in the set
unfoldable pub member : Places → ℕ → Bool
member s i = bit_at s.bits i == 1

-- the places of a set are below n
abbrev pub Below : Places → ℕ → Type 0
Below s n = (p : ℕ) → member s p ≡ true → p < n

-- no place is in the set
abbrev pub Empty : Places → Type 0
Empty s = (p : ℕ) → member s p ≡ false

-- r has the places of a and those of b
abbrev pub IsUnion : Places → Places → Places → Type 0
IsUnion a b r = (i : ℕ) → member r i ≡ (member a i || member b i)

-- p is the lowest place of s, and t has the others
pub record TakesOut (s t : Places) (p : ℕ) : Type 0 where
  pub within : p < 64
  pub has : member s p ≡ true
  pub lowest : (q : ℕ) → q < p → member s q ≡ false
  pub rest : (q : ℕ) → member t q ≡ (member s q && not (p == q))

-- whether the place q is in the set that a row has for the place p
abbrev pub behind : List Places → ℕ → ℕ → Bool
behind rows p q = member (slice_index_or rows p (record { bits = 0 })) q
