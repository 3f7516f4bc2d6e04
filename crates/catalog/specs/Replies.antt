-- What the lister answers to an input.
use Rattle.std.specs.Prelude.{ℕ, ◌-◌, min, List, ◌++◌, length, Option}
use Rattle.std.specs.List.{flat_map}
use Rattle.event.specs.declared.order.Order.{Order}
use Rattle.filter.specs.Filters.{all_wants}
use Rattle.law.specs.Rules as placed
use Rattle.law.specs.Rules.{most_counted, support_of}
use Rattle.law.specs.Lists.{deserving}
use Rattle.law.specs.Openings.{Opening, opening_refusal, world}
use Rattle.query.specs.declared.line.Query.{Query}
use Rattle.report.specs.declared.fault.ListerFault.{ListerFault}
use Rattle.report.specs.Texts.{head_text, pattern_text, end_text}
use Rattle.reply.specs.Listed.{Listed}
use Rattle.reply.specs.Replies as reply

-- what the session of a query is opened with
abbrev pub opening_for : {K : Type 0} → Query → (offsets : List ℕ) → (events lexicon : List K) → Opening K
opening_for query offsets events lexicon =
    record { events = events; offsets = offsets; lexicon = lexicon; threshold = query.threshold; longest = query.longest }

-- the patterns that are listed: those that deserve it, in rising order; every list of events is wanted
abbrev pub listed : {K : Type 0} → (K → K → Order) → Opening K → List (List ℕ)
listed order o = deserving (world order) o all_wants

-- the line of a pattern: its support and its events
abbrev pub listed_text : {K : Type 0} → (K → K → Order) → (K → List ℕ) → Opening K → List ℕ → List ℕ
listed_text order label o q = pattern_text label (support_of (world order) o q) (placed.events_of (world order) o q)

-- the lines of a session's list: its patterns, and how many they are, of which at most 4,294,967,295 are counted
abbrev pub session_text : {K : Type 0} → (K → K → Order) → (K → List ℕ) → Opening K → List ℕ
session_text order label o =
    flat_map (listed_text order label o) (listed order o) ++ end_text (min (length (listed order o)) most_counted)

-- what was read, and then these
abbrev pub patterns_text : {K : Type 0} → (K → K → Order) → (K → List ℕ) → Opening K → List ℕ
patterns_text order label o =
    head_text (length o.offsets - 1) (length o.events) o.threshold o.longest ++ session_text order label o

-- these lines are listed, unless the opening of the session is refused
abbrev pub patterns : Listed
patterns =
    record {
      refusal = λ order query offsets events lexicon. opening_refusal order (opening_for query offsets events lexicon);
      lines = λ order label query offsets events lexicon. patterns_text order label (opening_for query offsets events lexicon);
    }

-- why the lister refuses an input, if it does: the input's length, the query line, the bundle, learning, the opening, in this order
abbrev pub fault_in : List ℕ → Option ListerFault
fault_in = reply.fault_in patterns

-- the text that is written: the list, or the line of the refusal
abbrev pub reply_text : List ℕ → List ℕ
reply_text = reply.reply_text patterns
