-- Texts put one behind the other at a row's front.
use Rattle.std.proofs.Common.{◌≡◌, ℕ, ◌+◌, ◌-◌, ◌<◌, ◌≤◌, List, [], ◌++◌, length, get_or, take, drop, sym, ap, ◌∙◌, append_assoc, arith}
use Rattle.std.specs.List.{flat_map}
use borrow.Rule.Slice.PartMut.{put_mid}
use Rattle.std.proofs.lemmas.List.{append-nil, length-append, length-drop, drop-drop, drop_all, take_at, drop_at, take_rest}
use Rattle.event.specs.Rows.{laid}
use Rattle.event.proofs.Laying.{laid_fits}
use Rattle.line.proofs.Joining.{joined_more, joined_fits}

-- a text at the front of what is left of the row
pub put_more : (row done text was rest : List ℕ) (at : ℕ) → length done + length text ≤ length row → at ≡ length done → was ≡ laid done row → rest ≡ laid text (take (length was - at) (drop at was)) → put_mid at (length was - at) was rest ≡ laid (done ++ text) row
put_more row done text was rest at fits place p e =
    let behind = drop (length done) row in
    let w : was ≡ done ++ behind = p ∙ laid_fits done row (omega arith) in
    let lb : length behind ≡ length row - length done = length-drop (length done) row in
    let lw : length was ≡ length row = ap length w ∙ omega (arith, length-append done behind) in
    let front : take at was ≡ done = ap (take at) w ∙ take_at done behind at (sym place) in
    let back : drop at was ≡ behind = ap (drop at) w ∙ drop_at done behind at (sym place) in
    let left : take (length was - at) (drop at was) ≡ behind = take_rest was at ∙ back in
    let none : drop (length was - at) (drop at was) ≡ [] = drop_all (length was - at) (drop at was) (omega (arith, length-drop at was)) in
    let d : drop (length text) behind ≡ drop (length (done ++ text)) row = drop-drop (length text) (length done) row ∙ ap (λ (n : ℕ). drop n row) (sym (length-append done text)) in
    let t : rest ≡ text ++ drop (length (done ++ text)) row = e ∙ ap (laid text) left ∙ laid_fits text behind (omega arith) ∙ ap (λ (l : List ℕ). text ++ l) d in
    ap (λ (l : List ℕ). l ++ (rest ++ drop (length was - at) (drop at was))) front
    ∙ ap (λ (l : List ℕ). done ++ (rest ++ l)) none
    ∙ ap (λ (l : List ℕ). done ++ l) (append-nil rest ∙ t)
    ∙ sym (append_assoc done text (drop (length (done ++ text)) row))
    ∙ sym (laid_fits (done ++ text) row (omega (arith, length-append done text)))

-- the next item's text
pub put_item : {X : Type 0} (f : X → List ℕ) (xs : List X) (i : ℕ) (x : X) (row was rest : List ℕ) (at : ℕ) → i < length xs → x ≡ get_or xs i x → length (flat_map f xs) ≤ length row → at ≡ length (flat_map f (take i xs)) → was ≡ laid (flat_map f (take i xs)) row → rest ≡ laid (f x) (take (length was - at) (drop at was)) → put_mid at (length was - at) was rest ≡ laid (flat_map f (take (i + 1) xs)) row
put_item f xs i x row was rest at h is fits place p e =
    let n = joined_fits f xs i x h is in
    put_more row (flat_map f (take i xs)) (f x) was rest at (omega arith) place p e ∙ ap (λ (l : List ℕ). laid l row) (sym (joined_more f xs i x h is))
