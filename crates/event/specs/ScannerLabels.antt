-- That the label of a scanner's event reads back alike: the lemma that its kind gives as the law.
use Rattle.std.specs.Prelude.{◌≡◌, ℕ, Option}
use Rattle.std.proofs.Common.{sym, subst, arith}
use Rattle.std.proofs.lemmas.Bool.Decides.{nat_tests}
use Rattle.event.specs.declared.order.Order.TheVariants.{Alike}
use Rattle.event.specs.declared.scanner.Scanner.{Scanner}
use Rattle.event.specs.Orders.{AlikeSome}
use Rattle.event.specs.Reading.{numeral_decimal}
use Rattle.event.specs.Scanners.{code_of, order_of, label_of, labelled_by, coded, read_event}

pub reads_back : (x : Scanner) → AlikeSome order_of x (labelled_by (label_of x))
reads_back x =
    let same : order_of x (coded (code_of x)) ≡ Alike = grind (arith, nat_tests) in
    subst (λ (o : Option ℕ). AlikeSome order_of x (read_event o)) (sym (numeral_decimal 4095 (code_of x) (omega arith) (omega arith))) same
