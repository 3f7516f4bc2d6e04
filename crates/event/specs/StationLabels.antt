-- That the label of a station's event reads back alike: the lemma that its kind gives as the law.
use Rattle.std.specs.Prelude.{◌≡◌, ℕ, ◌+◌, ◌-◌, ◌≤◌, List, [], ◌∷◌, ◌++◌, length, take, Some, decimal, Option, slice_index, slice_index_or}
use Rattle.std.proofs.Common.{sym, ap, subst, ◌∙◌, arith}
use Rattle.std.proofs.lemmas.List.{length-append, get_or_at, get_or-append-add, take_at}
use Rattle.std.proofs.lemmas.Bool.Decides.{nat_tests}
use Rattle.event.specs.declared.order.Order.TheVariants.{Alike}
use Rattle.event.specs.declared.station.Station.{Station}
use Rattle.event.specs.Numerals.{numeral}
use Rattle.event.specs.Orders.{AlikeSome}
use Rattle.event.specs.Reading.{numeral_decimal}
use Rattle.event.specs.Stations.{action_of, outcome_of, order_of, label_of, labelled_by, letter_of, outcome_for, reported, read_event}

-- a label's parts are what it was made of
parts : (ds : List ℕ) (l : ℕ) → labelled_by (ds ++ (58 ∷ l ∷ [])) ≡ read_event (numeral 99 ds) (outcome_for l)
parts ds l =
    let n : length (ds ++ (58 ∷ l ∷ [])) ≡ length ds + 2 = length-append ds (58 ∷ l ∷ []) in
    let front : take (length (ds ++ (58 ∷ l ∷ [])) - 2) (ds ++ (58 ∷ l ∷ [])) ≡ ds = take_at ds (58 ∷ l ∷ []) _ (omega arith) in
    let colon : slice_index_or (ds ++ (58 ∷ l ∷ [])) (length (ds ++ (58 ∷ l ∷ [])) - 2) 0 ≡ 58 = get_or_at ds 58 (l ∷ []) 0 _ (omega arith) in
    let last : slice_index_or (ds ++ (58 ∷ l ∷ [])) (length (ds ++ (58 ∷ l ∷ [])) - 1) 0 ≡ l =
    ap (λ (k : ℕ). slice_index (ds ++ (58 ∷ l ∷ [])) k) (omega arith) ∙ get_or-append-add ds (58 ∷ l ∷ []) 1 0 in
    grind (arith, nat_tests)

letter_back : (o : ℕ) → o ≤ 2 → outcome_for (letter_of o) ≡ Some o
letter_back o h = grind (arith, nat_tests)

action_read : (a o : ℕ) → 1 ≤ a → read_event (Some a) (Some o) ≡ Some (reported a o 0)
action_read a o h = grind (arith, nat_tests)

pub reads_back : (x : Station) → AlikeSome order_of x (labelled_by (label_of x))
reads_back x =
    let same : order_of x (reported (action_of x) (outcome_of x) 0) ≡ Alike = grind (arith, nat_tests) in
    let e : labelled_by (label_of x) ≡ Some (reported (action_of x) (outcome_of x) 0) =
    parts (decimal (action_of x)) (letter_of (outcome_of x))
    ∙ ap (λ (o : Option ℕ). read_event o (outcome_for (letter_of (outcome_of x)))) (numeral_decimal 99 (action_of x) (omega arith) (omega arith))
    ∙ ap (λ (o : Option ℕ). read_event (Some (action_of x)) o) (letter_back (outcome_of x) (omega arith))
    ∙ action_read (action_of x) (outcome_of x) (omega arith) in
    subst (AlikeSome order_of x) (sym e) same
