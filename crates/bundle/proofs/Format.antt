-- A file in which nothing is wrong is what its offsets and events write down, and a file so written has nothing wrong in it.
use Rattle.std.proofs.Common.{◌≡◌, ℕ, ◌+◌, ◌-◌, ◌*◌, ◌<◌, ◌≤◌, true, List, [], ◌∷◌, ◌++◌, map, length, get_or, drop, is_some, Some, None, Option, sym, refl, ap, ◌∙◌, subst, append-nil, mul-le-mul_left, mul-add, arith}
use mathlib.Core.List.{map-map}
use Rattle.std.proofs.lemmas.List.FromFn.{length-map-range_with_len, get_or-map-range_with_len, fill_by_all}
use Rattle.std.proofs.lemmas.List.{drop_at, drop-drop, drop_all, length-append, length-map, get_or-map}
use Rattle.std.specs.List.{range_with_len, flat_map}
use Rattle.event.specs.Spans.{part}
use Rattle.bundle.specs.Numbers.{high_first, in_two, in_four}
use Rattle.bundle.specs.Offsets.{LawfulOffsets}
use Rattle.bundle.specs.Bundles.{kind_in, tapes_in, events_in, offset_place, offset_in, offsets_in, event_place, size_for, present, event_in, events_of, file_of, Says, FormatStands}
use Rattle.bundle.proofs.Bytes.{high_first_in_two, high_first_in_four, in_two_high_first, in_four_high_first}
use Rattle.bundle.proofs.Pieces.{part_behind, length_part, get_or_part, part_rest, joined_same, joined_map, cut, length_joined, piece_at}
use Rattle.bundle.proofs.Checks.{present_some, some_present, some_at, Sound, sound_from, sound_stands}

-- four lists behind each other, and equal ones
same_four : (a b c d x y z w : List ℕ) → a ≡ x → b ≡ y → c ≡ z → d ≡ w → a ++ (b ++ (c ++ d)) ≡ x ++ (y ++ (z ++ w))
same_four a b c d x y z w p q r s = cc

-- a file's header, and what is behind it
header_rest : (file : List ℕ) → file ≡ part 0 2 file ++ (part 2 2 file ++ (part 4 4 file ++ drop 8 file))
header_rest file =
    let p : part 4 4 file ++ drop 8 file ≡ drop 4 file = part_rest 4 4 file in
    let q : part 2 2 file ++ drop 4 file ≡ drop 2 file = part_rest 2 2 file in
    let r : part 0 2 file ++ drop 2 file ≡ file = part_rest 0 2 file in
    cc

-- the numbers of a file of bytes, written back
module _ (file : List ℕ) (small : (i : ℕ) → get_or file i 0 < 256) where
  part_small : (from count i : ℕ) → i < count → get_or (part from count file) i 0 < 256
  part_small from count i h =
      let s = small (from + i) in
      omega (arith, get_or_part from count file i h)

  two_back : (from : ℕ) → from + 2 ≤ length file → in_two (high_first (part from 2 file)) ≡ part from 2 file
  two_back from h = in_two_high_first (part from 2 file) (length_part from 2 file h) (part_small from 2)

  four_back : (from : ℕ) → from + 4 ≤ length file → in_four (high_first (part from 4 file)) ≡ part from 4 file
  four_back from h = in_four_high_first (part from 4 file) (length_part from 4 file h) (part_small from 4)

  offsets_back : (n : ℕ) → offset_place n ≤ length file → flat_map in_four (map (offset_in file) (range_with_len 0 n)) ++ drop (offset_place n) file ≡ drop 8 file
  offsets_back n h =
      let a : flat_map in_four (map (offset_in file) (range_with_len 0 n)) ≡ flat_map (λ i. in_four (offset_in file i)) (range_with_len 0 n) = joined_map in_four (offset_in file) (range_with_len 0 n) in
      let b : flat_map (λ i. in_four (offset_in file i)) (range_with_len 0 n) ≡ flat_map (λ i. part (offset_place i) 4 file) (range_with_len 0 n) =
      joined_same (λ i. in_four (offset_in file i)) (λ i. part (offset_place i) 4 file) 0 n (λ k l. four_back (offset_place k) (omega arith)) in
      let z : 0 + n ≡ n = omega arith in
      let c : drop (offset_place n) file ≡ drop (8 + 4 * (0 + n)) file = ap (λ (k : ℕ). drop (8 + 4 * k) file) (sym z) in
      ap (λ (l : List ℕ). l ++ drop (offset_place n) file) (a ∙ b) ∙ ap (λ (l : List ℕ). flat_map (λ i. part (offset_place i) 4 file) (range_with_len 0 n) ++ l) c ∙ cut 8 4 0 n file

-- the bytes of a file's events
abbrev pieces_of : ℕ → List ℕ → List (List ℕ)
pieces_of width file = map (λ i. part (event_place width file i) width file) (range_with_len 0 (events_in file))

pieces_back : (width : ℕ) (file : List ℕ) → length file ≡ size_for width file → drop (offset_place (tapes_in file + 1)) file ≡ flat_map (λ p. p) (pieces_of width file)
pieces_back width file h =
    let from = offset_place (tapes_in file + 1) in
    let n = events_in file in
    let all = flat_map (λ i. part (from + width * i) width file) (range_with_len 0 n) in
    let a : flat_map (λ p. p) (pieces_of width file) ≡ all = joined_map (λ p. p) (λ i. part (from + width * i) width file) (range_with_len 0 n) in
    let i : 0 + n ≡ n = omega arith in
    let z : drop (from + width * (0 + n)) file ≡ [] = ap (λ (k : ℕ). drop (from + width * k) file) i ∙ drop_all (from + width * n) file (omega arith) in
    let j : from + width * 0 ≡ from = omega arith in
    let b : all ++ drop (from + width * (0 + n)) file ≡ drop (from + width * 0) file = cut from width 0 n file in
    let c : drop (from + width * 0) file ≡ drop from file = ap (λ (k : ℕ). drop k file) j in
    let d : all ++ [] ≡ all = append-nil all in
    cc

-- a file in which nothing is wrong says what is read from it
module _ {K : Type 0} (number width : ℕ) (stands : List ℕ → Option K) (file : List ℕ) (s : Sound number width stands file) where
  all_stand : map (event_in width stands file) (range_with_len 0 (events_in file)) ≡ map Some (events_of width stands file)
  all_stand =
      let n = events_in file in
      let os = map (event_in width stands file) (range_with_len 0 n) in
      let count : length os ≡ n = length-map-range_with_len (event_in width stands file) 0 n in
      some_present os (λ k h.
      let l : k < n = omega arith in
      ap is_some (get_or-map-range_with_len (event_in width stands file) 0 n k k None l (omega arith)) ∙ s.events k l)

  events_count : length (events_of width stands file) ≡ events_in file
  events_count = sym (length-map (events_of width stands file) Some) ∙ ap length (sym all_stand) ∙ length-map-range_with_len (event_in width stands file) 0 (events_in file)

  pieces_wide : (i : ℕ) → i < length (pieces_of width file) → length (get_or (pieces_of width file) i []) ≡ width
  pieces_wide i h =
      let n = events_in file in
      let piece = λ (k : ℕ). part (event_place width file k) width file in
      let l : i < n = omega (arith, length-map-range_with_len piece 0 n) in
      let m : i + 1 ≤ n = omega arith in
      let e : width * (i + 1) ≤ width * n = mul-le-mul_left width m in
      let z = s.size in
      ap length (get_or-map-range_with_len piece 0 n i i [] l (omega arith)) ∙ length_part (event_place width file i) width file (omega (arith, mul-add width i 1))

  bytes_back : ((i : ℕ) → get_or file i 0 < 256) → file ≡ file_of number (offsets_in file) (pieces_of width file)
  bytes_back small =
      let n = tapes_in file + 1 in
      let offsets = offsets_in file in
      let pieces = pieces_of width file in
      let z = s.size in
      let a : part 0 2 file ≡ in_two number = sym (two_back file small 0 (omega arith)) ∙ ap in_two s.kind in
      let i : tapes_in file ≡ length offsets - 1 = omega (arith, length-map-range_with_len (offset_in file) 0 n) in
      let b : part 2 2 file ≡ in_two (length offsets - 1) = sym (two_back file small 2 (omega arith)) ∙ ap in_two i in
      let j : events_in file ≡ length pieces = sym (length-map-range_with_len (λ k. part (event_place width file k) width file) 0 (events_in file)) in
      let c : part 4 4 file ≡ in_four (length pieces) = sym (four_back file small 4 (omega arith)) ∙ ap in_four j in
      let d : drop 8 file ≡ flat_map in_four offsets ++ flat_map (λ p. p) pieces =
      sym (offsets_back file small n (omega arith)) ∙ ap (λ (l : List ℕ). flat_map in_four offsets ++ l) (pieces_back width file z) in
      header_rest file ∙ same_four _ _ _ _ _ _ _ _ a b c d

  says_from : ((i : ℕ) → get_or file i 0 < 256) → Says number width stands file (offsets_in file) (events_of width stands file)
  says_from small = record {
    pieces = pieces_of width file;
    stood = map-map stands (λ i. part (event_place width file i) width file) (range_with_len 0 (events_in file)) ∙ all_stand;
    wide = pieces_wide;
    bytes = bytes_back small;
    few_tapes = let l = s.few_tapes in omega (arith, length-map-range_with_len (offset_in file) 0 (tapes_in file + 1));
    few_events = let l = s.few_events in omega (arith, events_count);
    lawful = subst (LawfulOffsets (offsets_in file)) (sym events_count) s.lawful;
  }

-- lawful offsets are not none
some_first : (offsets : List ℕ) → get_or offsets 0 1 ≡ 0 → 0 < length offsets
some_first [] e = absurd (omega arith)
some_first (o ∷ os) e = omega arith

-- what is read from a file that was written down
module _ {K : Type 0} (number width : ℕ) (stands : List ℕ → Option K) (file : List ℕ) (offsets : List ℕ) (events : List K) (s : Says number width stands file offsets events) where
  pieces_count : length s.pieces ≡ length events
  pieces_count = sym (length-map s.pieces stands) ∙ ap length s.stood ∙ length-map events Some

  kind_read : kind_in file ≡ number
  kind_read = ap kind_in s.bytes ∙ high_first_in_two number

  tapes_read : tapes_in file + 1 ≡ length offsets
  tapes_read =
      let t : tapes_in file ≡ length offsets - 1 = ap tapes_in s.bytes ∙ high_first_in_two (length offsets - 1) in
      omega (arith, some_first offsets s.lawful.first)

  events_read : events_in file ≡ length s.pieces
  events_read = ap events_in s.bytes ∙ high_first_in_four (length s.pieces)

  -- the offsets, and behind them the pieces
  behind_header : drop 8 file ≡ flat_map in_four offsets ++ flat_map (λ p. p) s.pieces
  behind_header = ap (drop 8) s.bytes

  offsets_length : length (flat_map in_four offsets) ≡ 4 * (tapes_in file + 1)
  offsets_length = length_joined in_four 0 4 offsets (λ i h. refl) ∙ ap (λ (n : ℕ). 4 * n) (sym tapes_read)

  behind_offsets : drop (offset_place (tapes_in file + 1)) file ≡ flat_map (λ p. p) s.pieces
  behind_offsets =
      let n = 4 * (tapes_in file + 1) in
      sym (drop-drop n 8 file) ∙ ap (drop n) behind_header ∙ drop_at (flat_map in_four offsets) (flat_map (λ p. p) s.pieces) n offsets_length

  size_read : length file ≡ size_for width file
  size_read =
      let d = flat_map in_four offsets in
      let e = flat_map (λ p. p) s.pieces in
      let a : length file ≡ 8 + length (d ++ e) = ap length s.bytes ∙ omega arith in
      let b : length e ≡ width * events_in file = length_joined (λ p. p) [] width s.pieces s.wide ∙ ap (λ (n : ℕ). width * n) (sym events_read) in
      omega (arith, length-append d e, offsets_length)

  offset_read : (k : ℕ) → k < length offsets → offset_in file k ≡ get_or offsets k 0
  offset_read k h =
      let e = flat_map (λ p. p) s.pieces in
      let a : part (offset_place k) 4 file ≡ in_four (get_or offsets k 0) =
      part_behind 8 (4 * k) 4 file ∙ ap (part (4 * k) 4) behind_header ∙ piece_at in_four 0 4 offsets e (λ i l. refl) k h in
      ap high_first a ∙ high_first_in_four (get_or offsets k 0)

  offsets_read : offsets_in file ≡ offsets
  offsets_read =
      let n = tapes_in file + 1 in
      sym (fill_by_all (offset_in file) offsets n 0 (sym tapes_read) (λ k h. sym (offset_read k (omega (arith, tapes_read)))))

  event_read : (k : ℕ) → k < length s.pieces → event_in width stands file k ≡ stands (get_or s.pieces k [])
  event_read k h =
      let from = offset_place (tapes_in file + 1) in
      let e = flat_map (λ p. p) s.pieces in
      ap stands (part_behind from (width * k) width file ∙ ap (part (width * k) width) (behind_offsets ∙ sym (append-nil e)) ∙ piece_at (λ p. p) [] width s.pieces [] s.wide k h)

  all_read : map (event_in width stands file) (range_with_len 0 (events_in file)) ≡ map Some events
  all_read =
      let n = events_in file in
      let c : length (map stands s.pieces) ≡ n = length-map s.pieces stands ∙ sym events_read in
      let f : map stands s.pieces ≡ map (event_in width stands file) (range_with_len 0 n) =
      fill_by_all (event_in width stands file) (map stands s.pieces) n None c (λ k h.
      let l : k < length s.pieces = omega (arith, events_read) in
      get_or-map stands s.pieces k [] None l ∙ sym (event_read k l)) in
      sym f ∙ s.stood

  events_stand : (k : ℕ) → k < events_in file → is_some (event_in width stands file k) ≡ true
  events_stand k h =
      let n = events_in file in
      let a : get_or (map (event_in width stands file) (range_with_len 0 n)) k None ≡ event_in width stands file k = get_or-map-range_with_len (event_in width stands file) 0 n k k None h (omega arith) in
      let b : get_or (map (event_in width stands file) (range_with_len 0 n)) k None ≡ get_or (map Some events) k None = ap (λ (os : List (Option K)). get_or os k None) all_read in
      ap is_some (sym a ∙ b) ∙ some_at events k (omega (arith, events_read, pieces_count))

  says_sound : Sound number width stands file
  says_sound = record {
    header = omega (arith, size_read);
    kind = kind_read;
    few_tapes = let l = s.few_tapes in omega (arith, tapes_read);
    few_events = let l = s.few_events in omega (arith, events_read, pieces_count);
    size = size_read;
    lawful = subst (λ (os : List ℕ). LawfulOffsets os (events_in file)) (sym offsets_read) (subst (LawfulOffsets offsets) (sym (events_read ∙ pieces_count)) s.lawful);
    events = events_stand;
  }

-- reading finds no fault in a file, and gives some offsets and events, exactly if the file says them
pub format_stands : {K : Type 0} (number width : ℕ) (stands : List ℕ → Option K) → FormatStands number width stands
format_stands {K} number width stands = λ file offsets events. (
  λ small e p q.
      let a : Says number width stands file (offsets_in file) (events_of width stands file) = says_from number width stands file (sound_from number width stands file e) small in
      let b : Says number width stands file offsets (events_of width stands file) = subst (λ (os : List ℕ). Says number width stands file os (events_of width stands file)) p a in
      subst (λ (es : List K). Says number width stands file offsets es) q b,
  λ s. (
    sound_stands number width stands file (says_sound number width stands file offsets events s),
    offsets_read number width stands file offsets events s,
    ap present (all_read number width stands file offsets events s) ∙ present_some events,
  ),
)
