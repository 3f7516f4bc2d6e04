use Rattle.std.proofs.Common.{◌≡◌, ℕ, ◌+◌, ◌*◌, ◌^◌, ◌<◌, ◌≤◌, length, IfNone, IfSome, Some, None, Option, decimal, ap, ◌∙◌, arith}
use Rattle.std.specs.Option.{unwrap_or}
use Rattle.event.proofs.Writing.{length_digit, length_at, length_most}
use Rattle.event.proofs.decimal.decimal_length.Goals as goal

-- the logarithm, or 0 where there is none, is one less than the digits
digits : (o : Option ℕ) (n : ℕ) → n < 2 ^ 64 → IfNone o (n ≡ 0) → IfSome o (λ k. 10 ^ k ≤ n) → IfSome o (λ k. n < 10 * 10 ^ k) → unwrap_or o 0 + 1 ≡ length (decimal n)
digits (Some k) n small none le lt = length_at k n le lt small
digits None n small none le lt = omega (arith, length_digit n (omega arith))

pub returns : goal.returns
returns c =
    let e = digits c.checked_ilog10.result c.args.n (omega arith) c.checked_ilog10.ensures.none c.checked_ilog10.ensures.power_le c.checked_ilog10.ensures.next_power_gt in
    let value : c.unwrap_or.result + 1 ≡ length (decimal c.args.n) = ap (λ (k : ℕ). k + 1) c.unwrap_or.ensures ∙ e in
    record { value = value; bound = omega (arith, length_most c.args.n (omega arith)) }
