-- What is written at a row's front, with and without room.
use Rattle.std.proofs.Common.{◌≡◌, ℕ, ◌+◌, ◌-◌, ◌<◌, ◌≤◌, List, [], ◌∷◌, ◌++◌, length, get_or, take, drop, set, Ok, Err, sym, refl, ap, ◌∙◌, append_assoc, arith}
use Rattle.std.proofs.lemmas.List.{drop_more, set_at, set-append_right, take_at}
use Rattle.std.proofs.lemmas.Bool.Decides.{nat_tests}
use Rattle.event.specs.declared.refusal.Refusal.{Refusal}
use Rattle.event.specs.declared.refusal.Refusal.TheVariants.{Room}
use Rattle.event.specs.Rows.{written, laid}

pub written_fits : (n room : ℕ) → n ≤ room → written n room ≡ Ok n
written_fits n room h = grind (arith, nat_tests)

pub written_short : (n room : ℕ) → room < n → written n room ≡ Err Room
written_short n room h = grind (arith, nat_tests)

pub laid_fits : {X : Type 0} (xs row : List X) → length xs ≤ length row → laid xs row ≡ xs ++ drop (length xs) row
laid_fits xs row h = grind (arith, nat_tests)

pub laid_short : {X : Type 0} (xs row : List X) → length row < length xs → laid xs row ≡ row
laid_short xs row h = grind (arith, nat_tests)

-- two more behind what was written
pub two_behind : {X : Type 0} (ds row : List X) (x y : X) → length ds + 2 ≤ length row → set (set (ds ++ drop (length ds) row) (length ds) x) (length ds + 1) y ≡ (ds ++ (x ∷ y ∷ [])) ++ drop (length ds + 2) row
two_behind {X} ds row x y h =
    let d = length ds in
    let a : drop d row ≡ get_or row d x ∷ drop (d + 1) row = drop_more row d x (omega arith) in
    let b : drop (d + 1) row ≡ get_or row (d + 1) x ∷ drop (d + 1 + 1) row = drop_more row (d + 1) x (omega arith) in
    let k : drop (d + 1 + 1) row ≡ drop (d + 2) row = ap (λ (n : ℕ). drop n row) (omega arith) in
    let p : drop d row ≡ get_or row d x ∷ get_or row (d + 1) x ∷ drop (d + 2) row = cc in
    let q : set (ds ++ (get_or row d x ∷ get_or row (d + 1) x ∷ drop (d + 2) row)) d x ≡ ds ++ (x ∷ get_or row (d + 1) x ∷ drop (d + 2) row) =
    set_at ds (get_or row d x) (get_or row (d + 1) x ∷ drop (d + 2) row) x d refl in
    let r : set (ds ++ (x ∷ get_or row (d + 1) x ∷ drop (d + 2) row)) (d + 1) y ≡ ds ++ set (x ∷ get_or row (d + 1) x ∷ drop (d + 2) row) (d + 1 - d) y =
    set-append_right ds (x ∷ get_or row (d + 1) x ∷ drop (d + 2) row) d (d + 1) y refl (omega arith) in
    let one : d + 1 - d ≡ 1 = omega arith in
    let s : set (x ∷ get_or row (d + 1) x ∷ drop (d + 2) row) (d + 1 - d) y ≡ x ∷ y ∷ drop (d + 2) row =
    ap (λ (n : ℕ). set (x ∷ get_or row (d + 1) x ∷ drop (d + 2) row) n y) one in
    ap (λ (l : List X). set (set (ds ++ l) d x) (d + 1) y) p ∙ ap (λ (l : List X). set l (d + 1) y) q ∙ r ∙ ap (λ (l : List X). ds ++ l) s ∙ sym (append_assoc ds (x ∷ y ∷ []) (drop (d + 2) row))

-- what the answer of such a call tells
pub fits_written : (n room count : ℕ) → written n room ≡ Ok count → (n ≤ room) × (count ≡ n)
fits_written n room count e = grind (arith, nat_tests)

pub short_written : (n room : ℕ) (f : Refusal) → written n room ≡ Err f → room < n
short_written n room f e = grind (arith, nat_tests)

-- what was written stands at the row's front
pub take_laid : (bs row : List ℕ) (count : ℕ) → written (length bs) (length row) ≡ Ok count → take count (laid bs row) ≡ bs
take_laid bs row count e =
    let f = fits_written (length bs) (length row) count e in
    ap (take count) (laid_fits bs row f.0) ∙ take_at bs (drop (length bs) row) count (sym f.1)
