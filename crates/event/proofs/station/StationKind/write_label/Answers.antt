use Rattle.std.proofs.Common.{◌≡◌, ℕ, ◌+◌, ◌≤◌, List, [], ◌∷◌, ◌++◌, length, drop, set, Ok, decimal, sym, ap, ◌∙◌, arith}
use Rattle.std.proofs.lemmas.List.{length-append}
use Rattle.event.specs.Rows.{written, laid}
use Rattle.event.specs.Stations.{action_of, outcome_of, letter_of}
use Rattle.event.proofs.Laying.{written_fits, written_short, laid_fits, laid_short, two_behind}
use Rattle.event.proofs.station.StationKind.write_label.Goals as goal

-- digits, and two bytes behind them, written at a row's front
module _ (ds row : List ℕ) (x y : ℕ) where
  both : length (ds ++ (x ∷ y ∷ [])) ≡ length ds + 2
  both = length-append ds (x ∷ y ∷ [])

  ok : length ds + 2 ≤ length row → Ok (length ds + 2) ≡ written (length (ds ++ (x ∷ y ∷ []))) (length row)
  ok h = let b = both in ap Ok (sym b) ∙ sym (written_fits (length (ds ++ (x ∷ y ∷ []))) (length row) (omega arith))

  done : length ds + 2 ≤ length row → set (set (laid ds row) (length ds) x) (length ds + 1) y ≡ laid (ds ++ (x ∷ y ∷ [])) row
  done h =
      let b = both in
      let e = laid_fits ds row (omega arith) in
      ap (λ (l : List ℕ). set (set l (length ds) x) (length ds + 1) y) e ∙ two_behind ds row x y h ∙ ap (λ (n : ℕ). (ds ++ (x ∷ y ∷ [])) ++ drop n row) (sym b) ∙ sym (laid_fits (ds ++ (x ∷ y ∷ [])) row (omega arith))

pub returns-then-row-digits : goal.returns-then-row-digits
returns-then-row-digits c =
    let s = c.args.self.now in
    let ds = decimal (action_of s) in
    let b = both ds c.args.row.now 58 (letter_of (outcome_of s)) in
    let n : c.decimal_length-digits.result ≡ length ds = cc in
    record {
      answer = sym (written_short (length (ds ++ (58 ∷ letter_of (outcome_of s) ∷ []))) (length c.args.row.now) (omega arith));
      after = sym (laid_short (ds ++ (58 ∷ letter_of (outcome_of s) ∷ [])) c.args.row.now (omega arith));
    }

pub returns : goal.returns
returns c =
    let s = c.args.self.now in
    let row = c.args.row.now in
    let ds = decimal (action_of s) in
    let l = letter_of (outcome_of s) in
    let n : c.decimal_length-digits.result ≡ length ds = cc in
    let h : length ds + 2 ≤ length row = omega arith in
    let m : c.letter.result ≡ l = cc in
    let w : c.write_decimal.new.row ≡ laid ds row = cc c.in_ok-write_decimal.ensures.after in
    let o = ok ds row 58 l h in
    let d = done ds row 58 l h in
    record { answer = cc; after = cc }
