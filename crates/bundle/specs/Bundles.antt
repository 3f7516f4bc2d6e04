-- What a bundle file says, and what reading it answers.
use Rattle.std.specs.Prelude.{◌≡◌, ℕ, ◌+◌, ◌-◌, ◌*◌, ◌<◌, ◌≤◌, Bool, cond, not, ◌&&◌, List, [], ◌∷◌, ◌++◌, map, length, is_some, Some, None, Ok, Err, Option, Result, ◌==◌, nat_le, slice_index, slice_index_or}
use Rattle.std.specs.List.{range_with_len, flat_map}
use Rattle.event.specs.Rows.{laid}
use Rattle.event.specs.Spans.{span, part}
use Rattle.bundle.specs.declared.fault.BundleFault.{BundleFault}
use Rattle.bundle.specs.declared.fault.BundleFault.TheVariants.{Short, Over, Kind, Size, Offsets, Event, Room}
use Rattle.bundle.specs.Numbers.{high_first, in_two, in_four}
use Rattle.bundle.specs.Offsets.{lowest, wrong_offset, LawfulOffsets}

-- the header: the kind's number, the tape count and the event count
abbrev pub kind_in : List ℕ → ℕ
kind_in file = high_first (part 0 2 file)

abbrev pub tapes_in : List ℕ → ℕ
tapes_in file = high_first (part 2 2 file)

abbrev pub events_in : List ℕ → ℕ
events_in file = high_first (part 4 4 file)

-- where an offset begins: behind the header, four bytes each
abbrev pub offset_place : ℕ → ℕ
offset_place i = 8 + 4 * i

-- the offsets: one more than there are tapes
abbrev pub offset_in : List ℕ → ℕ → ℕ
offset_in file i = high_first (part (offset_place i) 4 file)

abbrev pub offsets_in : List ℕ → List ℕ
offsets_in file = map (offset_in file) (range_with_len 0 (tapes_in file + 1))

-- where an event begins: behind the offsets, as many bytes each as the kind says
abbrev pub event_place : (width : ℕ) → List ℕ → ℕ → ℕ
event_place width file i = offset_place (tapes_in file + 1) + width * i

-- how many bytes the counts give
abbrev pub size_for : (width : ℕ) → List ℕ → ℕ
size_for width file = event_place width file (events_in file)

-- the first fault of several checks, if one is
abbrev pub first_wrong : List (Option BundleFault) → Option BundleFault
first_wrong [] = None
first_wrong (Some f ∷ fs) = Some f
first_wrong (None ∷ fs) = first_wrong fs

-- a check that passes if a test is true
abbrev pub unless : Bool → BundleFault → Option BundleFault
unless test f = cond test None (Some f)

-- a check that fails at an index, if one is
abbrev pub where_at : Option ℕ → (ℕ → BundleFault) → Option BundleFault
where_at (Some i) f = Some (f i)
where_at None f = None

-- what there is
abbrev pub present : {K : Type 0} → List (Option K) → List K
present [] = []
present (Some x ∷ os) = x ∷ present os
present (None ∷ os) = present os

-- the event at an index, or none
abbrev pub event_in : {K : Type 0} → (width : ℕ) → (List ℕ → Option K) → List ℕ → ℕ → Option K
event_in width stands file i = stands (part (event_place width file i) width file)

-- the events
abbrev pub events_of : {K : Type 0} → (width : ℕ) → (List ℕ → Option K) → List ℕ → List K
events_of width stands file = present (map (event_in width stands file) (range_with_len 0 (events_in file)))

-- the lowest event whose bytes are outside the kind
abbrev pub wrong_event : {K : Type 0} → (width : ℕ) → (List ℕ → Option K) → List ℕ → Option ℕ
wrong_event width stands file = lowest (λ i. not (is_some (event_in width stands file i))) 0 (events_in file)

-- the checks of the header and of the file's length, in order
abbrev pub count_checks : (number width : ℕ) → List ℕ → List (Option BundleFault)
count_checks number width file =
    unless (nat_le 8 (length file)) Short
    ∷ unless (kind_in file == number) Kind
    ∷ unless (nat_le (tapes_in file) 512 && nat_le (events_in file) 65535) Size
    ∷ unless (nat_le (size_for width file) (length file)) Short
    ∷ unless (nat_le (length file) (size_for width file)) Over
    ∷ []

abbrev pub offset_check : List ℕ → Option BundleFault
offset_check file = where_at (wrong_offset (events_in file) (offsets_in file)) (λ i. Offsets i (span (offset_place i) 4))

abbrev pub event_check : {K : Type 0} → (width : ℕ) → (List ℕ → Option K) → List ℕ → Option BundleFault
event_check width stands file =
    where_at (wrong_event width stands file) (λ i. Event i (span (event_place width file i) width))

-- the check of the rows, which have room for so many offsets and events
abbrev pub room_check : List ℕ → ℕ → ℕ → Option BundleFault
room_check file offset_room event_room = unless (nat_le (tapes_in file + 1) offset_room && nat_le (events_in file) event_room) Room

-- what is wrong with a file, if anything: the first check that fails
abbrev pub file_fault : {K : Type 0} → (number width : ℕ) → (List ℕ → Option K) → List ℕ → Option BundleFault
file_fault number width stands file =
    first_wrong (first_wrong (count_checks number width file) ∷ offset_check file ∷ event_check width stands file ∷ [])

-- why reading is refused, if it is: the rows come last
abbrev pub read_fault : {K : Type 0} → (number width : ℕ) → (List ℕ → Option K) → List ℕ → ℕ → ℕ → Option BundleFault
read_fault number width stands file offset_room event_room =
    first_wrong (file_fault number width stands file ∷ room_check file offset_room event_room ∷ [])

-- an answer, or the fault that stands in its place
abbrev pub or_fault : {X : Type 0} → Option BundleFault → X → Result X BundleFault
or_fault None x = Ok x
or_fault (Some f) x = Err f

-- a row after reading: the new ones at its front, or as it was where reading is refused
abbrev pub filled : {X : Type 0} → Option BundleFault → List X → List X → List X
filled None xs row = laid xs row
filled (Some f) xs row = row

-- the bytes of a bundle: the kind's number, the counts, the offsets, and the bytes of its events
abbrev pub file_of : (number : ℕ) → (offsets : List ℕ) → (pieces : List (List ℕ)) → List ℕ
file_of number offsets pieces =
    in_two number ++ (in_two (length offsets - 1) ++ (in_four (length pieces) ++ (flat_map in_four offsets ++ flat_map (λ p. p) pieces)))

-- a file that says a bundle of offsets and events: it is written down from them, event by event in bytes that stand for it
pub record Says {K : Type 0} (number width : ℕ) (stands : List ℕ → Option K) (file : List ℕ) (offsets : List ℕ) (events : List K) : Type 0 where
  pub pieces : List (List ℕ)
  pub stood : map stands pieces ≡ map Some events
  pub wide : (i : ℕ) → i < length pieces → length (slice_index_or pieces i []) ≡ width
  pub bytes : file ≡ file_of number offsets pieces
  pub few_tapes : length offsets ≤ 513
  pub few_events : length events ≤ 65535
  pub lawful : LawfulOffsets offsets (length events)

-- reading finds no fault in a file, and gives some offsets and events, exactly if the file says them
abbrev pub FormatStands : {K : Type 0} → (number width : ℕ) → (List ℕ → Option K) → Type 0
FormatStands {K} number width stands =
    (file : List ℕ) (offsets : List ℕ) (events : List K)
    → (((i : ℕ) → slice_index file i < 256) → file_fault number width stands file ≡ None → offsets_in file ≡ offsets → events_of width stands file ≡ events → Says number width stands file offsets events)
    × (Says number width stands file offsets events → (file_fault number width stands file ≡ None) × (offsets_in file ≡ offsets) × (events_of width stands file ≡ events))
