use Rattle.std.specs.Prelude.{ℕ, ◌+◌, ◌*◌, ◌/◌, ◌%◌, List, [], ◌∷◌}

-- the number that bytes write behind one that was read
abbrev pub bytes_from : ℕ → List ℕ → ℕ
bytes_from n [] = n
bytes_from n (b ∷ bs) = bytes_from (n * 256 + b) bs

-- the number in some bytes, the high byte first
abbrev pub high_first : List ℕ → ℕ
high_first bs = bytes_from 0 bs

-- a number in two bytes, the high byte first
abbrev pub in_two : ℕ → List ℕ
in_two n = n / 256 ∷ n % 256 ∷ []

-- a number in four bytes, the high byte first
abbrev pub in_four : ℕ → List ℕ
in_four n = n / 16777216 ∷ n / 65536 % 256 ∷ n / 256 % 256 ∷ n % 256 ∷ []
