-- What the checks of a file say where they find nothing, and of all that stands in a list.
use Rattle.std.proofs.Common.{◌≡◌, ℕ, zero, suc, ◌<◌, ◌≤◌, Bool, true, false, not, ◌&&◌, eqb, leb, List, [], ◌∷◌, map, length, get_or, is_some, Some, None, Option, refl, ap, arith}
use Rattle.std.proofs.lemmas.Bool.{false≢true, and_parts, and_from, leb-true, le-leb, eqb-true, eq-eqb, not-false, not_from_true}
use Rattle.bundle.specs.declared.fault.BundleFault.{BundleFault}
use Rattle.bundle.specs.declared.fault.BundleFault.TheVariants.{Short, Over, Kind, Size}
use Rattle.bundle.specs.Offsets.{wrong_offset, LawfulOffsets}
use Rattle.bundle.specs.Bundles.{kind_in, tapes_in, events_in, offsets_in, size_for, first_wrong, unless, where_at, present, event_in, wrong_event, count_checks, offset_check, event_check, file_fault}
use Rattle.bundle.proofs.Lawful.{lowest_none, none_lowest, lawful_from, lawful_stands}

-- several checks find nothing exactly if each finds nothing
first_wrong_none : (o : Option BundleFault) (os : List (Option BundleFault)) → first_wrong (o ∷ os) ≡ None → (o ≡ None) × (first_wrong os ≡ None)
first_wrong_none (Some f) os e = absurd (let z : ◌≡◌ {A = ℕ} 0 1 = cc in omega arith)
first_wrong_none None os e = (refl, e)

none_first_wrong : (o : Option BundleFault) (os : List (Option BundleFault)) → o ≡ None → first_wrong os ≡ None → first_wrong (o ∷ os) ≡ None
none_first_wrong (Some f) os p q = absurd (let z : ◌≡◌ {A = ℕ} 0 1 = cc in omega arith)
none_first_wrong None os p q = q

-- a test before other checks
unless_first : (b : Bool) (f : BundleFault) (os : List (Option BundleFault)) → first_wrong (unless b f ∷ os) ≡ None → (b ≡ true) × (first_wrong os ≡ None)
unless_first true f os e = (refl, e)
unless_first false f os e = absurd (let z : ◌≡◌ {A = ℕ} 0 1 = cc in omega arith)

none_unless : (b : Bool) (f : BundleFault) (os : List (Option BundleFault)) → b ≡ true → first_wrong os ≡ None → first_wrong (unless b f ∷ os) ≡ None
none_unless b f os e h = none_first_wrong (unless b f) os (ap (λ (t : Bool). unless t f) e) h

-- a check at an index finds nothing exactly if there is no such index
where_at_none : (o : Option ℕ) (f : ℕ → BundleFault) → where_at o f ≡ None → o ≡ None
where_at_none (Some i) f e = absurd (let z : ◌≡◌ {A = ℕ} 0 1 = cc in omega arith)
where_at_none None f e = refl

none_where_at : (o : Option ℕ) (f : ℕ → BundleFault) → o ≡ None → where_at o f ≡ None
none_where_at o f e = ap (λ (x : Option ℕ). where_at x f) e

-- what there is of what is all there
pub present_some : {K : Type 0} (xs : List K) → present (map Some xs) ≡ xs
present_some [] = refl
present_some (x ∷ xs) = ap (λ (l : List _). x ∷ l) (present_some xs)

pub some_present : {K : Type 0} (os : List (Option K)) → ((k : ℕ) → k < length os → is_some (get_or os k None) ≡ true) → os ≡ map Some (present os)
some_present [] h = refl
some_present (Some x ∷ os) h = ap (λ (l : List _). Some x ∷ l) (some_present os (λ k l. h (suc k) (omega arith)))
some_present (None ∷ os) h = absurd (false≢true (h 0 (omega arith)))

pub some_at : {K : Type 0} (xs : List K) (k : ℕ) → k < length xs → is_some (get_or (map Some xs) k None) ≡ true
some_at [] k h = absurd (omega arith)
some_at (x ∷ xs) zero h = refl
some_at (x ∷ xs) (suc k) h = some_at xs k (omega arith)

-- a file in which nothing is wrong
pub record Sound {K : Type 0} (number width : ℕ) (stands : List ℕ → Option K) (file : List ℕ) : Type 0 where
  pub header : 8 ≤ length file
  pub kind : kind_in file ≡ number
  pub few_tapes : tapes_in file ≤ 512
  pub few_events : events_in file ≤ 65535
  pub size : length file ≡ size_for width file
  pub lawful : LawfulOffsets (offsets_in file) (events_in file)
  pub events : (i : ℕ) → i < events_in file → is_some (event_in width stands file i) ≡ true

module _ {K : Type 0} (number width : ℕ) (stands : List ℕ → Option K) (file : List ℕ) where
  pub sound_from : file_fault number width stands file ≡ None → Sound number width stands file
  sound_from e =
      let whole = first_wrong_none (first_wrong (count_checks number width file)) (offset_check file ∷ event_check width stands file ∷ []) e in
      let behind = first_wrong_none (offset_check file) (event_check width stands file ∷ []) whole.1 in
      let end = first_wrong_none (event_check width stands file) [] behind.1 in
      let a = unless_first (leb 8 (length file)) Short _ whole.0 in
      let b = unless_first (eqb (kind_in file) number) Kind _ a.1 in
      let c = unless_first (leb (tapes_in file) 512 && leb (events_in file) 65535) Size _ b.1 in
      let d = unless_first (leb (size_for width file) (length file)) Short _ c.1 in
      let f = unless_first (leb (length file) (size_for width file)) Over [] d.1 in
      let few = and_parts (leb (tapes_in file) 512) (leb (events_in file) 65535) c.0 in
      let low = leb-true (size_for width file) (length file) d.0 in
      let high = leb-true (length file) (size_for width file) f.0 in
      let none = where_at_none (wrong_event width stands file) _ end.0 in
      record {
        header = leb-true 8 (length file) a.0;
        kind = eqb-true (kind_in file) number b.0;
        few_tapes = leb-true (tapes_in file) 512 few.0;
        few_events = leb-true (events_in file) 65535 few.1;
        size = omega arith;
        lawful = lawful_from (offsets_in file) (events_in file) (where_at_none (wrong_offset (events_in file) (offsets_in file)) _ behind.0);
        events = λ i h. not-false (is_some (event_in width stands file i)) (lowest_none (λ k. not (is_some (event_in width stands file k))) 0 (events_in file) none i (omega arith) (omega arith));
      }

  pub sound_stands : Sound number width stands file → file_fault number width stands file ≡ None
  sound_stands s =
      let offsets : offset_check file ≡ None = none_where_at (wrong_offset (events_in file) (offsets_in file)) _ (lawful_stands (offsets_in file) (events_in file) s.lawful) in
      let events : event_check width stands file ≡ None =
      none_where_at (wrong_event width stands file) _ (none_lowest (λ k. not (is_some (event_in width stands file k))) 0 (events_in file) (λ k p q. not_from_true (is_some (event_in width stands file k)) (s.events k (omega arith)))) in
      let over = none_unless (leb (length file) (size_for width file)) Over [] (le-leb (length file) (size_for width file) (omega arith)) refl in
      let short = none_unless (leb (size_for width file) (length file)) Short _ (le-leb (size_for width file) (length file) (omega arith)) over in
      let few = and_from (leb (tapes_in file) 512) (leb (events_in file) 65535) (le-leb (tapes_in file) 512 s.few_tapes) (le-leb (events_in file) 65535 s.few_events) in
      let size = none_unless (leb (tapes_in file) 512 && leb (events_in file) 65535) Size _ few short in
      let kind = none_unless (eqb (kind_in file) number) Kind _ (eq-eqb (kind_in file) number s.kind) size in
      let counts = none_unless (leb 8 (length file)) Short _ (le-leb 8 (length file) s.header) kind in
      none_first_wrong (first_wrong (count_checks number width file)) (offset_check file ∷ event_check width stands file ∷ []) counts (none_first_wrong (offset_check file) (event_check width stands file ∷ []) offsets (none_first_wrong (event_check width stands file) [] events refl))
