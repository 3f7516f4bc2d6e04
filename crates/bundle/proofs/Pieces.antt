-- Parts of a list, and lists made of pieces of one width.
use Rattle.std.proofs.Common.{◌≡◌, ℕ, zero, suc, ◌+◌, ◌*◌, ◌<◌, ◌≤◌, List, [], ◌∷◌, ◌++◌, map, length, get_or, take, drop, sym, refl, ap, ◌∙◌, append_assoc, mul-add, arith}
use Rattle.std.proofs.lemmas.List.{take_at, drop_at, drop-drop, take-append-drop, length-append, length-take-le, length-drop, get_or-take, get_or-drop}
use Rattle.std.specs.List.{range_with_len, flat_map}
use Rattle.event.specs.Spans.{part}

-- a part behind a place is that part of what begins there
pub part_behind : (from at count : ℕ) (bs : List ℕ) → part (from + at) count bs ≡ part at count (drop from bs)
part_behind from at count bs = ap (take count) (sym (drop-drop at from bs))

pub length_part : (from count : ℕ) (bs : List ℕ) → from + count ≤ length bs → length (part from count bs) ≡ count
length_part from count bs h = length-take-le count (drop from bs) (omega (arith, length-drop from bs))

pub get_or_part : (from count : ℕ) (bs : List ℕ) (i : ℕ) → i < count → get_or (part from count bs) i 0 ≡ get_or bs (from + i) 0
get_or_part from count bs i h = get_or-take count (drop from bs) i 0 h ∙ get_or-drop from bs i 0

-- what begins at a place is a part and what is behind it
pub part_rest : (from count : ℕ) (bs : List ℕ) → part from count bs ++ drop (from + count) bs ≡ drop from bs
part_rest from count bs = ap (λ (l : List ℕ). part from count bs ++ l) (sym (drop-drop count from bs)) ∙ take-append-drop count (drop from bs)

-- pieces that are equal one by one
pub joined_same : (f g : ℕ → List ℕ) (a n : ℕ) → ((k : ℕ) → k < a + n → f k ≡ g k) → flat_map f (range_with_len a n) ≡ flat_map g (range_with_len a n)
joined_same f g a zero h = refl
joined_same f g a (suc n) h =
    let p : f a ≡ g a = h a (omega arith) in
    let q : flat_map f (range_with_len (a + 1) n) ≡ flat_map g (range_with_len (a + 1) n) = joined_same f g (a + 1) n (λ k b. h k (omega arith)) in
    cc

pub joined_map : {X Y : Type 0} (f : Y → List ℕ) (g : X → Y) (xs : List X) → flat_map f (map g xs) ≡ flat_map (λ x. f (g x)) xs
joined_map f g [] = refl
joined_map f g (x ∷ xs) = ap (λ (l : List ℕ). f (g x) ++ l) (joined_map f g xs)

-- the pieces of a list from a place on, and what is behind them
pub cut : (from width a n : ℕ) (bs : List ℕ) → flat_map (λ i. part (from + width * i) width bs) (range_with_len a n) ++ drop (from + width * (a + n)) bs ≡ drop (from + width * a) bs
cut from width a zero bs = ap (λ (k : ℕ). drop (from + width * k) bs) (omega arith)
cut from width a (suc n) bs =
    let piece = λ (i : ℕ). part (from + width * i) width bs in
    let rest = flat_map piece (range_with_len (a + 1) n) in
    let p : rest ++ drop (from + width * (a + 1 + n)) bs ≡ drop (from + width * (a + 1)) bs = cut from width (a + 1) n bs in
    let i : a + suc n ≡ a + 1 + n = omega arith in
    let q : drop (from + width * (a + suc n)) bs ≡ drop (from + width * (a + 1 + n)) bs = ap (λ (k : ℕ). drop (from + width * k) bs) i in
    let j : from + width * (a + 1) ≡ from + width * a + width = omega (arith, mul-add width a 1) in
    let r : drop (from + width * (a + 1)) bs ≡ drop (from + width * a + width) bs = ap (λ (k : ℕ). drop k bs) j in
    let s : piece a ++ drop (from + width * a + width) bs ≡ drop (from + width * a) bs = part_rest (from + width * a) width bs in
    append_assoc (piece a) rest (drop (from + width * (a + suc n)) bs) ∙ cc

-- pieces of one width
abbrev pub Wide : {X : Type 0} → (X → List ℕ) → X → ℕ → List X → Type 0
Wide f d width xs = (i : ℕ) → i < length xs → length (f (get_or xs i d)) ≡ width

wide_rest : {X : Type 0} (f : X → List ℕ) (d : X) (width : ℕ) (x : X) (xs : List X) → Wide f d width (x ∷ xs) → Wide f d width xs
wide_rest f d width x xs w = λ i h. w (suc i) (omega arith)

pub length_joined : {X : Type 0} (f : X → List ℕ) (d : X) (width : ℕ) (xs : List X) → Wide f d width xs → length (flat_map f xs) ≡ width * length xs
length_joined f d width [] w = omega arith
length_joined f d width (x ∷ xs) w =
    let p : length (f x) ≡ width = w 0 (omega arith) in
    let q : length (flat_map f xs) ≡ width * length xs = length_joined f d width xs (wide_rest f d width x xs w) in
    omega (arith, length-append (f x) (flat_map f xs), mul-add width (length xs) 1)

-- the piece at an index
pub piece_at : {X : Type 0} (f : X → List ℕ) (d : X) (width : ℕ) (xs : List X) (rest : List ℕ) → Wide f d width xs → (i : ℕ) → i < length xs → part (width * i) width (flat_map f xs ++ rest) ≡ f (get_or xs i d)
piece_at f d width [] rest w i h = absurd (omega arith)
piece_at f d width (x ∷ xs) rest w zero h =
    let bs = f x ++ flat_map f xs ++ rest in
    let p : length (f x) ≡ width = w 0 (omega arith) in
    let z : width * 0 ≡ 0 = omega arith in
    ap (λ (k : ℕ). part k width bs) z ∙ ap (take width) (append_assoc (f x) (flat_map f xs) rest) ∙ take_at (f x) (flat_map f xs ++ rest) width p
piece_at f d width (x ∷ xs) rest w (suc i) h =
    let bs = f x ++ flat_map f xs ++ rest in
    let p : length (f x) ≡ width = w 0 (omega arith) in
    let s : width * suc i ≡ width + width * i = omega (arith, mul-add width i 1) in
    let b : drop width bs ≡ flat_map f xs ++ rest = ap (drop width) (append_assoc (f x) (flat_map f xs) rest) ∙ drop_at (f x) (flat_map f xs ++ rest) width p in
    ap (λ (k : ℕ). part k width bs) s ∙ part_behind width (width * i) width bs ∙ ap (part (width * i) width) b ∙ piece_at f d width xs rest (wide_rest f d width x xs w) i (omega arith)
