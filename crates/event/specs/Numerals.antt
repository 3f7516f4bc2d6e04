use Rattle.std.specs.Prelude.{ℕ, ◌+◌, ◌-◌, ◌*◌, Bool, cond, ◌&&◌, List, [], ◌∷◌, Some, None, Option, ◌==◌, nat_le}

-- whether a byte is a decimal digit
abbrev pub is_digit : ℕ → Bool
is_digit c = nat_le 48 c && nat_le c 57

-- a number with one more digit behind it
abbrev pub onward : ℕ → ℕ → ℕ
onward n c = n * 10 + (c - 48)

-- the number that digits write after one that was read; none past the limit, and none at what is no digit
abbrev pub read_from : ℕ → ℕ → List ℕ → Option ℕ
read_from most n [] = Some n
read_from most n (c ∷ cs) = cond (is_digit c && nat_le (onward n c) most) (read_from most (onward n c) cs) None

-- the number up to a limit that a text without leading zeros writes
abbrev pub numeral : ℕ → List ℕ → Option ℕ
numeral most [] = None
numeral most (c ∷ []) = read_from most 0 (c ∷ [])
numeral most (c ∷ d ∷ ds) = cond (c == 48) None (read_from most 0 (c ∷ d ∷ ds))
