-- How many offsets are in a file, and how a row is written from its front on.
use Rattle.std.proofs.Common.{◌≡◌, ℕ, ◌+◌, ◌<◌, List, [], ◌∷◌, ◌++◌, map, length, get_or, drop, set, sym, ap, ◌∙◌, append_assoc, arith}
use Rattle.std.proofs.lemmas.List.FromFn.{length-map-range_with_len, map-range_with_len_more}
use Rattle.std.proofs.lemmas.List.{drop_more, set_at}
use Rattle.std.specs.List.{range_with_len}
use Rattle.bundle.specs.Bundles.{tapes_in, offset_in, offsets_in}

pub length_offsets : (file : List ℕ) → length (offsets_in file) ≡ tapes_in file + 1
length_offsets file = length-map-range_with_len (offset_in file) 0 (tapes_in file + 1)

-- one more behind what was written
pub write_more : {X : Type 0} (xs row : List X) (i : ℕ) (x : X) → length xs ≡ i → i < length row → set (xs ++ drop i row) i x ≡ (xs ++ (x ∷ [])) ++ drop (i + 1) row
write_more {X} xs row i x len h =
    ap (λ (l : List X). set (xs ++ l) i x) (drop_more row i x h) ∙ set_at xs (get_or row i x) (drop (i + 1) row) x i len ∙ sym (append_assoc xs (x ∷ []) (drop (i + 1) row))

pub write_counted_more : {X : Type 0} (f : ℕ → X) (row : List X) (i : ℕ) → i < length row → set (map f (range_with_len 0 i) ++ drop i row) i (f i) ≡ map f (range_with_len 0 (i + 1)) ++ drop (i + 1) row
write_counted_more {X} f row i h =
    write_more (map f (range_with_len 0 i)) row i (f i) (length-map-range_with_len f 0 i) h ∙ ap (λ (l : List X). l ++ drop (i + 1) row) (sym (map-range_with_len_more f 0 i i (omega arith)))
