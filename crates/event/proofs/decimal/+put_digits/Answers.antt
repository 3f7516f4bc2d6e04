use Rattle.std.proofs.Common.{◌≡◌, ℕ, ◌+◌, ◌%◌, List, [], ◌∷◌, ◌++◌, sym, ap, ◌∙◌, arith}
use Rattle.std.proofs.lemmas.List.{nil_from_length}
use Rattle.std.proofs.lemmas.Fmt.{decimal_digit, decimal_step}
use Rattle.event.proofs.Writing.{length_digit, length_step}
use Rattle.event.proofs.decimal.+put_digits.Goals as goal

pub put_digits-requires : goal.put_digits-requires
put_digits-requires t c =
    let e = length_step c.args.n (omega arith) (omega arith) in (omega arith, omega (arith, c.in-Some.ensures.cases))

pub returns-then-n-ge10 : goal.returns-then-n-ge10
returns-then-n-ge10 t c =
    rw c.put_digits.ensures (sym (decimal_step c.args.n (omega arith) (omega arith)))

pub returns-else-n-ge10 : goal.returns-else-n-ge10
returns-else-n-ge10 t c =
    let one = length_digit c.args.n (omega arith) in
    let none : c.in-Some.front.now ≡ [] = nil_from_length c.in-Some.front.now (omega (arith, c.in-Some.ensures.cases)) in
    ap (λ (front : List ℕ). front ++ ((48 + c.args.n % 10) ∷ [])) none ∙ ap (λ (d : ℕ). (48 + d) ∷ []) (omega arith) ∙ sym (decimal_digit c.args.n (omega arith))
