-- Levels in rows: what writes behind them leave, and how the next one grows entry by entry.
use Rattle.std.proofs.Common.{◌≡◌, ℕ, zero, suc, ◌+◌, ◌-◌, ◌<◌, ◌≤◌, List, [], ◌∷◌, ◌++◌, length, get_or, Some, None, Option, sym, refl, ap, ◌∙◌, append-nil, add-one, arith, length-append}
use Rattle.std.proofs.lemmas.Bool.Decides.{nat_tests}
use Rattle.event.specs.declared.order.Order.{Order}
use Rattle.matching.specs.Inclusion.{place_after}
use Rattle.trail.specs.declared.level.Head.{Head}
use Rattle.trail.specs.declared.level.Rows.{Rows}
use Rattle.trail.specs.Projection.{entry_of, grown}
use Rattle.trail.specs.Levels.{entries, level, end, entry_at, Kept}
use Rattle.trail.specs.Trials.{reaching}
use Rattle.trail.proofs.Projections.{grown_append}

-- what is kept below a place is kept below an earlier one
pub kept_more : (n at : ℕ) (first rows later : Rows) → n ≤ at → Kept n first rows → Kept at rows later → Kept n first later
kept_more n at first rows later le kept more =
    record {
      tapes = λ i h. more.tapes i (omega arith) ∙ kept.tapes i h;
      places = λ i h. more.places i (omega arith) ∙ kept.places i h;
    }

-- what is kept has the same entries
pub entries_kept : (n : ℕ) (earlier later : Rows) → Kept n earlier later → (start count : ℕ) → start + count ≤ n → entries later.tapes later.places start count ≡ entries earlier.tapes earlier.places start count
entries_kept n earlier later kept start zero le = refl
entries_kept n earlier later kept start (suc count) le =
    let below : start + count < n = omega arith in
    rw (entries_kept n earlier later kept start count (omega arith), kept.tapes (start + count) below, kept.places (start + count) below)

-- an entry that is laid right behind makes them one more
pub entries_more : (rows later : Rows) (start count : ℕ) (entry : ℕ × ℕ) → Kept (start + count) rows later → entry_at later (start + count) ≡ entry → entries later.tapes later.places start (count + 1) ≡ entries rows.tapes rows.places start count ++ entry ∷ []
entries_more rows later start count entry kept is =
    rw (add-one, entries_kept (start + count) rows later kept start count (omega arith), is)

pub length_entries : (tapes places : List ℕ) (start count : ℕ) → length (entries tapes places start count) ≡ count
length_entries tapes places start zero = refl
length_entries tapes places start (suc count) =
    rw (length-append (entries tapes places start count) ((get_or tapes (start + count) 0, get_or places (start + count) 0) ∷ []), length_entries tapes places start count) (omega arith)

-- where nothing is needed, a count is answered
pub always : (count : ℕ) → reaching 0 count ≡ Some count
always count = grind (arith, nat_tests)

-- what an answer tells of the count
pub reached : (need count answer : ℕ) → Some answer ≡ reaching need count → (need ≤ count) × (answer ≡ count)
reached need count answer is = grind (arith, nat_tests)

pub too_low : (need count : ℕ) → count < need → None ≡ reaching need count
too_low need count low = grind (arith, nat_tests)

pub missed : (need count : ℕ) → None ≡ reaching need count → count < need
missed need count is = grind (arith, nat_tests)

one_at_most : (number : ℕ) (place : Option ℕ) → length (entry_of number place) ≤ 1
one_at_most number (Some place) = omega arith
one_at_most number None = omega arith

module _ {K : Type 0} (order : K → K → Order) (tapes : List (List K)) (event : K) (rows : Rows) (head : Head) where
  -- the first entries of a head's level, and what they give
  abbrev first : ℕ → List (ℕ × ℕ)
  first n = entries rows.tapes rows.places head.start n

  abbrev gives : ℕ → List (ℕ × ℕ)
  gives n = grown order tapes event (first n)

  -- one entry more
  pub grown_more : (n number place : ℕ) (next : Option ℕ) → number ≡ get_or rows.tapes (head.start + n) 0 → place ≡ get_or rows.places (head.start + n) 0 → next ≡ place_after order (get_or tapes number []) place event → gives (n + 1) ≡ gives n ++ entry_of number next
  grown_more n number place next a b is =
      rw (add-one, grown_append order tapes event (first n) ((get_or rows.tapes (head.start + n) 0, get_or rows.places (head.start + n) 0) ∷ []), ← a, ← b, is, append-nil)

  -- the same at a place of the rows, of which the later ones keep the level
  pub grown_at : (later : Rows) (at : ℕ) (entry : ℕ × ℕ) (next : Option ℕ) → head.start ≤ at → at < end head → Kept (end head) rows later → entry ≡ entry_at later at → next ≡ place_after order (get_or tapes entry.0 []) entry.1 event → gives (at + 1 - head.start) ≡ gives (at - head.start) ++ entry_of entry.0 next
  grown_at later at entry next from within kept read is =
      let n : ℕ = at - head.start in
      let here : at ≡ head.start + n = omega arith in
      let more : at + 1 - head.start ≡ n + 1 = omega arith in
      rw more
      (grown_more n entry.0 entry.1 next
      (ap (λ (e : ℕ × ℕ). e.0) read ∙ kept.tapes at within ∙ ap (λ (k : ℕ). get_or rows.tapes k 0) here)
      (ap (λ (e : ℕ × ℕ). e.1) read ∙ kept.places at within ∙ ap (λ (k : ℕ). get_or rows.places k 0) here)
      is)

  -- it gives one at most
  grown_one : (n : ℕ) → length (gives (n + 1)) ≤ length (gives n) + 1
  grown_one n =
      let number = get_or rows.tapes (head.start + n) 0 in
      let place = get_or rows.places (head.start + n) 0 in
      let next = place_after order (get_or tapes number []) place event in
      let b = one_at_most number next in
      rw (grown_more n number place next refl refl refl, length-append (gives n) (entry_of number next)) (omega arith)

  -- and so do many
  grown_many : (n m : ℕ) → length (gives (n + m)) ≤ length (gives n) + m
  grown_many n zero = let z : n + 0 ≡ n = omega arith in rw z (omega arith)
  grown_many n (suc m) =
      let z : n + suc m ≡ n + m + 1 = omega arith in
      let i = grown_many n m in
      let b = grown_one (n + m) in
      rw z (omega arith)

  -- a level that holds what the first n entries give
  module _ (later : Rows) (next : Head) (n : ℕ) (are : level later next ≡ gives n) where
    next_count : next.count ≡ length (gives n)
    next_count = sym (length_entries later.tapes later.places next.start next.count) ∙ ap length are

    -- where it and the entries left come to less than is needed, the whole next level does
    pub too_few : (need : ℕ) → n ≤ head.count → next.count + (head.count - n) < need → None ≡ reaching need (length (gives head.count))
    too_few need le few =
        let l = next_count in
        let z : n + (head.count - n) ≡ head.count = omega arith in
        let r : length (gives head.count) ≤ length (gives n) + (head.count - n) = rw z at (grown_many n (head.count - n)) in
        too_low need (length (gives head.count)) (omega arith)

    -- where no entry is left, its count is that of the next level
    pub counted : n ≡ head.count → next.count ≡ length (gives head.count)
    counted all = next_count ∙ ap (λ (m : ℕ). length (gives m)) all
