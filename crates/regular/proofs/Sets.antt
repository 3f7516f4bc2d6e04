-- Sets of places by the bits of numbers.
use Rattle.std.proofs.Common.{◌≡◌, ℕ, ◌*◌, ◌%◌, ◌^◌, ◌<◌, true, not, ◌&&◌, eqb, bit_and, bit_or, bit_xor, sym, ap, ◌∙◌, subst, ⊎_elim, one-mul, arith}
use Rattle.std.specs.Int.{bit_at, w64, trailing_zeros}
use lib.Bits.{xor_add_and}
use Rattle.std.proofs.lemmas.Nat.{pow_pos, one_shl}
use Rattle.std.proofs.lemmas.Nat.Bits.{bit_at-zero, bit_at_or, bit_at_xor, bit_at-pow_same, bit_at-pow_other, and_pow, bit_at-trailing_zeros, bit_at-lt, same_from_bits}
use Rattle.std.proofs.lemmas.Bool.{eqb-true, eq-eqb, cases_eq}
use Rattle.std.proofs.lemmas.Bool.Decides.{nat_tests}
use Rattle.regular.specs.Members.{member, Empty, IsUnion, TakesOut}
use Rattle.regular.specs.declared.set.Places.{Places}

abbrev pub of_bits : ℕ → Places
of_bits n = record { bits = n }

pub member_none : Empty (of_bits 0)
unfolding member
member_none i = ap (λ n. eqb n 1) (bit_at-zero i)

pub none_only : (s : Places) → Empty s → s.bits ≡ 0
unfolding member
none_only s h =
    same_from_bits s.bits 0 (λ i. let z = bit_at-zero i in let b = bit_at-lt s.bits i in let e = h i in grind (arith, nat_tests))

pub member_or : (a b : Places) → IsUnion a b (of_bits (bit_or a.bits b.bits))
unfolding member
member_or a b i = let x = bit_at-lt a.bits i in let y = bit_at-lt b.bits i in let e = bit_at_or a.bits b.bits i in grind (arith, nat_tests)

member_pow : (p i : ℕ) → member (of_bits (2 ^ p)) i ≡ eqb p i
unfolding member
member_pow p i =
    ⊎_elim
    (λ e. let x = bit_at-pow_same p in subst (λ (z : ℕ). eqb (bit_at (2 ^ p) z) 1 ≡ eqb p z) (sym e) (grind (arith, nat_tests)))
    (λ n. let x = bit_at-pow_other p i n in grind (arith, nat_tests))
    (cases_eq i p)

-- the one place alone
pub member_only : (p : ℕ) → p < 64 → (i : ℕ) → member (of_bits ((1 * 2 ^ p) % 2 ^ 64)) i ≡ eqb p i
member_only p h i = ap (λ n. member (of_bits n) i) (one_shl p 64 h) ∙ member_pow p i

-- a set without one of its places
pub member_without : (s : Places) (p : ℕ) → p < 64 → member s p ≡ true → (i : ℕ) → member (of_bits (bit_xor s.bits ((1 * 2 ^ p) % 2 ^ 64))) i ≡ (member s i && not (eqb p i))
unfolding member
member_without s p h k i =
    ap (λ n. member (of_bits (bit_xor s.bits n)) i) (one_shl p 64 h)
    ∙ ⊎_elim
    (λ e. subst (λ (z : ℕ). eqb (bit_at (bit_xor s.bits (2 ^ p)) z) 1 ≡ (eqb (bit_at s.bits z) 1 && not (eqb p z))) (sym e) (let x = bit_at-pow_same p in let y = bit_at_xor s.bits (2 ^ p) p in grind (arith, nat_tests)))
    (λ n. let x = bit_at-pow_other p i n in let y = bit_at_xor s.bits (2 ^ p) i in let z = bit_at-lt s.bits i in grind (arith, nat_tests))
    (cases_eq i p)

pub without_less : (s : Places) (p : ℕ) → p < 64 → member s p ≡ true → bit_xor s.bits ((1 * 2 ^ p) % 2 ^ 64) < s.bits
unfolding member
without_less s p h k =
    let e : bit_and s.bits (2 ^ p) ≡ 2 ^ p = and_pow s.bits p ∙ ap (λ n. n * 2 ^ p) (eqb-true (bit_at s.bits p) 1 k) ∙ one-mul (2 ^ p) in
    let f = xor_add_and s.bits (2 ^ p) in
    let z = pow_pos p in
    let less : bit_xor s.bits (2 ^ p) < s.bits = omega arith in
    subst (λ (n : ℕ). bit_xor s.bits n < s.bits) (sym (one_shl p 64 h)) less

pub some_bit : (s : Places) → (Empty s → ⊥) → 0 < s.bits
some_bit s h = ⊎_elim (λ e. absurd (h (subst (λ (n : ℕ). Empty (of_bits n)) (sym e) member_none))) (λ n. omega arith) (cases_eq s.bits 0)

-- the lowest place
pub takes_lowest : (s : Places) → (Empty s → ⊥) → s.bits < 2 ^ 64 → TakesOut s (of_bits (bit_xor s.bits ((1 * 2 ^ trailing_zeros w64 s.bits) % 2 ^ 64))) (trailing_zeros w64 s.bits)
unfolding member
takes_lowest s h fits =
    let z = bit_at-trailing_zeros w64 s.bits (some_bit s h) fits in
    let has = eq-eqb _ _ z.1 in
    record { within = z.0; has = has; lowest = λ i l. ap (λ n. eqb n 1) (z.2 i l); rest = member_without s _ z.0 has }
