use Rattle.std.proofs.Common.{◌≡◌, ℕ, ◌≤◌, ◌<◌, cond, eqb, ltb, List, length, Some, None, Option, unwrap_or, position, refl, sym, ap, ◌∙◌, ⊎_elim, arith, rules, tests}
use Rattle.std.specs.List.{position_or_len}
use Rattle.std.proofs.lemmas.Bool.{cases_lt, lt-ltb, le-ltb, cond-true, cond-false}
use Rattle.std.proofs.lemmas.Iterator.{YieldsList-from_slice}
use Rattle.std.proofs.lemmas.Iterator.Search.{position_from_yields_List}
use Rattle.std.proofs.lemmas.List.Recursion.{is_position_or_len}
use Rattle.std.proofs.lemmas.List.Sums.{prefix_len-le-length}
use Rattle.query.specs.Queries.{before}
use Rattle.query.proofs.line.count_before.Goals as goal

-- a place within so many, or else so many
place_or_all : (n l : ℕ) → n ≤ l → unwrap_or (cond (ltb n l) (Some n) None) l ≡ n
place_or_all n l h =
    ⊎_elim
    (λ (a : n < l). ap (λ (o : Option ℕ). unwrap_or o l) (cond-true (ltb n l) (Some n) None (lt-ltb n l a)))
    (λ (b : l ≤ n). ap (λ (o : Option ℕ). unwrap_or o l) (cond-false (ltb n l) (Some n) None (le-ltb n l b)) ∙ (let e : l ≡ n = omega arith in e))
    (cases_lt n l)

-- as many stand before the value as its first place says
before_is : (value : ℕ) (bs : List ℕ) → before value bs ≡ position_or_len (λ b. eqb b value) bs
before_is value bs =
    is_position_or_len (before value) (λ b. eqb b value) refl (λ x xs. ap (λ (n : ℕ). cond (eqb x value) 0 n) (omega arith)) bs

pub returns-clause-value : goal.returns-clause-value
returns-clause-value c =
    let value = c.args.value in
    let bs = c.args.bytes.now in
    let place = position_or_len (λ b. eqb b value) bs in
    let found : c.position.result ≡ position (λ b. eqb b value) bs = position_from_yields_List (λ b. eqb b value) _ _ c.position.result c.position.ensures.ran (YieldsList-from_slice _ c.iter.ensures.rest) (λ x b q k. search (rules, tests)) in
    c.unwrap_or.ensures ∙ ap (λ (o : Option ℕ). unwrap_or o (length bs)) found ∙ place_or_all place (length bs) (prefix_len-le-length _ bs) ∙ sym (before_is value bs)
