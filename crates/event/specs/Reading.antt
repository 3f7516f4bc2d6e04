-- What reading digits gives, turn by turn, and that the digits of a number read back as it.
use Rattle.std.specs.Prelude.{◌≡◌, ℕ, zero, suc, ◌+◌, ◌/◌, ◌%◌, ◌^◌, ◌<◌, ◌≤◌, true, false, cond, ◌&&◌, List, [], ◌∷◌, ◌++◌, length, drop, Some, None, decimal, Option, nat_le, slice_index, refl}
use Rattle.std.proofs.Common.{sym, ap, ◌∙◌, arith}
use Rattle.std.proofs.lemmas.Bool.Decides.{nat_tests}
use Rattle.std.proofs.lemmas.List.{at_drop_more}
use Rattle.std.proofs.lemmas.Fmt.{decimal_by_steps, decimal_nonempty, first_decimal, decimal_digit}
use Rattle.event.specs.Numerals.{is_digit, onward, read_from, numeral}

-- a digit that keeps the number within the limit is read
taken : (most v c : ℕ) (cs : List ℕ) → 48 ≤ c → c ≤ 57 → onward v c ≤ most → read_from most v (c ∷ cs) ≡ read_from most (onward v c) cs
taken most v c cs lo hi ok = grind (arith, nat_tests)

refused : (most v c : ℕ) (cs : List ℕ) → (48 ≤ c → c ≤ 57 → onward v c ≤ most → ⊥) → read_from most v (c ∷ cs) ≡ None
refused most v c cs no' = grind (arith, nat_tests)

pub read_on : (most v w : ℕ) (bs : List ℕ) (i : ℕ) → i < length bs → 48 ≤ slice_index bs i → slice_index bs i ≤ 57 → w ≡ onward v (slice_index bs i) → w ≤ most → read_from most w (drop (i + 1) bs) ≡ read_from most v (drop i bs)
read_on most v w bs i h lo hi e ok =
    ap (λ (n : ℕ). read_from most n (drop (i + 1) bs)) e ∙ sym (taken most v (slice_index bs i) (drop (i + 1) bs) lo hi (omega arith)) ∙ sym (at_drop_more (read_from most v) bs i 0 h)

pub read_stops : (most v : ℕ) (bs : List ℕ) (i : ℕ) → i < length bs → (48 ≤ slice_index bs i → slice_index bs i ≤ 57 → onward v (slice_index bs i) ≤ most → ⊥) → None ≡ read_from most v (drop i bs)
read_stops most v bs i h no' = sym (at_drop_more (read_from most v) bs i 0 h ∙ refused most v (slice_index bs i) (drop (i + 1) bs) no')

-- one more digit at the end
abbrev then_digit : ℕ → Option ℕ → ℕ → Option ℕ
then_digit most (Some w) c = read_from most w (c ∷ [])
then_digit most None c = None

read_snoc : (most v : ℕ) (ds : List ℕ) (c : ℕ) → read_from most v (ds ++ (c ∷ [])) ≡ then_digit most (read_from most v ds) c
read_snoc most v [] c = refl
read_snoc most v (d ∷ ds) c =
    elim (is_digit d && nat_le (onward v d) most) as (λ b. cond b (read_from most (onward v d) (ds ++ (c ∷ []))) None ≡ then_digit most (cond b (read_from most (onward v d) ds) None) c) [ true ↦ read_snoc most (onward v d) ds c | false ↦ refl ]

-- the digits of a number within the limit read as the number
read_decimal : (most n : ℕ) → n < 2 ^ 64 → n ≤ most → read_from most 0 (decimal n) ≡ Some n
read_decimal most n small =
    decimal_by_steps (λ m ds. m ≤ most → read_from most 0 ds ≡ Some m)
    (λ m h le. taken most 0 (48 + m) [] (omega arith) (omega arith) (omega arith) ∙ ap Some (omega arith))
    (λ m ds ten ih le. read_snoc most 0 ds (48 + m % 10) ∙ ap (λ (o : Option ℕ). then_digit most o (48 + m % 10)) (ih (omega arith)) ∙ taken most (m / 10) (48 + m % 10) [] (omega arith) (omega arith) (omega arith) ∙ ap Some (omega arith))
    n small

-- a text with no leading zero
plain : (most : ℕ) (ds : List ℕ) → 0 < length ds → (slice_index ds 0 ≡ 48 → length ds ≡ 1) → numeral most ds ≡ read_from most 0 ds
plain most [] some first = absurd (omega arith)
plain most (c ∷ []) some first = refl
plain most (c ∷ d ∷ ds) some first = grind (arith, nat_tests)

alone : (n : ℕ) → n < 2 ^ 64 → slice_index (decimal n) 0 ≡ 48 → length (decimal n) ≡ 1
alone zero small e = ap length (decimal_digit 0 (omega arith))
alone (suc m) small e = absurd (omega (arith, first_decimal (suc m) (omega arith) small))

pub numeral_decimal : (most n : ℕ) → n < 2 ^ 64 → n ≤ most → numeral most (decimal n) ≡ Some n
numeral_decimal most n small le =
    plain most (decimal n) (decimal_nonempty n small) (alone n small) ∙ read_decimal most n small le
