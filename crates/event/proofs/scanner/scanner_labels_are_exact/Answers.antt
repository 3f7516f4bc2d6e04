use Rattle.std.proofs.Common.{◌≡◌, ℕ, ◌≤◌, List, Some, None, decimal, Option, refl, ap, ◌∙◌, arith}
use Rattle.event.specs.declared.scanner.Scanner.{Scanner}
use Rattle.event.specs.Numerals.{numeral}
use Rattle.event.specs.Scanners.{code_of, coded, read_event, label_of}
use Rattle.event.proofs.Exactness.{numeral_exact, numeral_le}
use Rattle.event.proofs.scanner.scanner_labels_are_exact.Goals as goal

exact : (bs : List ℕ) (e : Scanner) (o : Option ℕ) → numeral 4095 bs ≡ o → read_event o ≡ Some e → label_of e ≡ bs
exact bs e (Some n) p q =
    let s : coded n ≡ e = cc in
    let m : n ≡ e.code = ap (λ (x : Scanner). x.code) s in
    let le : n ≤ 4095 = numeral_le 4095 n bs p in
    let k : code_of e ≡ n = omega arith in
    ap decimal k ∙ numeral_exact 4095 n bs (omega arith) p
exact bs e None p q = absurd (let z : ◌≡◌ {A = ℕ} 0 1 = cc in omega arith)

pub returns : goal.returns
returns c = λ bs e h. exact bs e (numeral 4095 bs) refl h
