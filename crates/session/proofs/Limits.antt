-- What an opening that is not refused has.
use Rattle.std.proofs.Common.{◌≡◌, ℕ, ◌≤◌, ◌&&◌, leb, List, [], ◌∷◌, length, None, arith}
use Rattle.std.proofs.lemmas.Bool.{and_parts, leb-true}
use Rattle.event.specs.declared.order.Order.{Order}
use Rattle.event.specs.declared.refusal.Refusal.TheVariants.{Threshold, Length, Size, Lexicon}
use Rattle.matching.specs.Checks.{unless}
use Rattle.matching.specs.Lexicons.{rises_strictly}
use Rattle.matching.specs.Rows.{few_tapes, few_events, offset_check, rows_refusal}
use Rattle.law.specs.Openings.{Opening, opening_refusal}
use Rattle.session.proofs.Refusing.{all_pass, passes, some_none}

-- the lengths of the rows and the longest length are within their limits
pub record Fits {K : Type 0} (o : Opening K) : Type 0 where
  pub offsets : 1 ≤ length o.offsets
  pub tapes : length o.offsets ≤ 513
  pub lexicon : length o.lexicon ≤ 1024
  pub longest : o.longest ≤ 16

some_offset : (n : ℕ) (offsets : List ℕ) → offset_check n offsets ≡ None → 1 ≤ length offsets
some_offset n [] e = absurd (some_none _ e)
some_offset n (o ∷ os) e = omega arith

pub fits : {K : Type 0} (order : K → K → Order) (o : Opening K) → opening_refusal order o ≡ None → Fits o
fits order o e =
    let tape = few_tapes o.offsets in
    let event = few_events (length o.events) in
    let word = leb (length o.lexicon) 1024 in
    let small = tape && (event && word) in
    let checks = all_pass (unless (leb 1 o.threshold && leb o.threshold 512) Threshold) (unless (leb 1 o.longest && leb o.longest 16) Length) (rows_refusal order o.events o.offsets o.lexicon) e in
    let rows = all_pass (unless small Size) (offset_check (length o.events) o.offsets) (unless (rises_strictly order o.lexicon) Lexicon) checks.2 in
    let few = passes small Size rows.0 in
    record {
      offsets = some_offset (length o.events) o.offsets rows.1;
      tapes = leb-true (length o.offsets) 513 (and_parts tape (event && word) few).0;
      lexicon = leb-true (length o.lexicon) 1024 (and_parts event word (and_parts tape (event && word) few).1).1;
      longest = leb-true o.longest 16 (and_parts (leb 1 o.longest) (leb o.longest 16) (passes _ Length checks.1)).1;
    }
