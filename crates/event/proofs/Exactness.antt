-- What reads as a number is what writes it.
use Rattle.std.proofs.Common.{◌≡◌, ℕ, ◌^◌, ◌<◌, ◌≤◌, true, cond, eqb, List, [], ◌∷◌, length, get_or, Some, None, decimal, Option, sym, refl, ap, ◌∙◌, arith, rules}
use Rattle.std.proofs.lemmas.Bool.Decides.{nat_tests}
use Rattle.std.proofs.lemmas.Str.Parse.{IsNumeralModel, numerals_by_fold}
use Rattle.std.proofs.lemmas.Fmt.{decimal-digits_value}
use Rattle.std.specs.Str.{all_ascii_digits}
use Rattle.event.specs.Numerals.{onward, read_from, numeral}

abbrev value_from : ℕ → List ℕ → ℕ
value_from n [] = n
value_from n (c ∷ cs) = value_from (onward n c) cs

own : IsNumeralModel (λ ds. all_ascii_digits ds ≡ true) (value_from 0)
own = numerals_by_fold _ (search rules) value_from (search rules)

Tells : ℕ → ℕ → List ℕ → ℕ → Type 0
Tells most v ds n = (all_ascii_digits ds ≡ true) × (value_from v ds ≡ n) × (n ≤ most)

taken_tells : (most v n c : ℕ) (cs : List ℕ) → read_from most v (c ∷ cs) ≡ Some n → (48 ≤ c) × (c ≤ 57) × (onward v c ≤ most) × (read_from most (onward v c) cs ≡ Some n)
taken_tells most v n c cs e = grind (arith, nat_tests)

read_tells : (most v n : ℕ) (ds : List ℕ) → v ≤ most → read_from most v ds ≡ Some n → Tells most v ds n
unfolding Tells
read_tells most v n [] le e = let s : v ≡ n = cc in (refl, s, omega arith)
read_tells most v n (c ∷ cs) le e =
    let t = taken_tells most v n c cs e in
    let r = read_tells most (onward v c) n cs t.2 t.3 in
    (grind (arith, nat_tests), r.1, r.2)

not_zero : (c n : ℕ) (o : Option ℕ) → cond (eqb c 48) None o ≡ Some n → (o ≡ Some n) × (c ≡ 48 → ⊥)
not_zero c n o e = grind (arith, nat_tests)

front : (most n : ℕ) (ds : List ℕ) → numeral most ds ≡ Some n → (read_from most 0 ds ≡ Some n) × (0 < length ds) × (get_or ds 0 0 ≡ 48 → length ds ≡ 1)
front most n [] e = absurd (let z : ◌≡◌ {A = ℕ} 0 1 = cc in omega arith)
front most n (c ∷ []) e = (e, omega arith, λ _. refl)
front most n (c ∷ d ∷ ds) e =
    let z = not_zero c n (read_from most 0 (c ∷ d ∷ ds)) e in (z.0, omega arith, λ h. absurd (z.1 h))

pub numeral_exact : (most n : ℕ) (ds : List ℕ) → most < 2 ^ 64 → numeral most ds ≡ Some n → decimal n ≡ ds
unfolding Tells
numeral_exact most n ds small e =
    let f = front most n ds e in
    let t = read_tells most 0 n ds (omega arith) f.0 in
    ap decimal (sym t.1) ∙ decimal-digits_value own ds t.0 f.1 f.2 (omega arith)

pub numeral_le : (most n : ℕ) (ds : List ℕ) → numeral most ds ≡ Some n → n ≤ most
unfolding Tells
numeral_le most n ds e = (read_tells most 0 n ds (omega arith) (front most n ds e).0).2
