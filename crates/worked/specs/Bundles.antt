-- The bundles of the worked cases, and how a session over them is written down.
use Rattle.std.specs.Prelude.{List, [], ◌∷◌, map, reverse, ℕ}
use Rattle.event.specs.declared.order.Order.{Order}
use Rattle.event.specs.declared.scanner.Scanner.{Scanner}
use Rattle.event.specs.declared.station.Station.{Station}
use Rattle.event.specs.Scanners as scanners
use Rattle.event.specs.Stations as stations
use Rattle.matching.specs.Learning.{learned}
use Rattle.matching.specs.Picks.{picked}
use Rattle.filter.specs.Filters.{all_wants}
use Rattle.law.specs.Transcripts.{Call, Open, Next, Answer, refusing, accepted, pattern, end, counted, told, answer_of}
use Rattle.law.specs.Answers.{run}
use Rattle.law.specs.Openings.{Opening, world}

-- scanner events with these codes
abbrev pub codes : List ℕ → List Scanner
codes ns = map scanners.coded ns

-- the events of five scanner tapes: 10 20 10 30; 10 30 40; 20 10; an empty one; 30 10 20
abbrev pub events : List Scanner
events = codes (10 ∷ 20 ∷ 10 ∷ 30 ∷ 10 ∷ 30 ∷ 40 ∷ 20 ∷ 10 ∷ 30 ∷ 10 ∷ 20 ∷ [])

-- where the tapes begin and end
abbrev pub offsets : List ℕ
offsets = 0 ∷ 4 ∷ 7 ∷ 9 ∷ 9 ∷ 12 ∷ []

-- a tape of two station events 12:d, of the stations 7 and 9
abbrev pub reports : List Station
reports = stations.reported 12 0 7 ∷ stations.reported 12 0 9 ∷ []

-- an opening with the lexicon that is learned
abbrev pub opened : {K : Type 0} → (K → K → Order) → List K → List ℕ → (threshold longest : ℕ) → Opening K
opened order events offsets threshold longest =
    record { events = events; offsets = offsets; lexicon = learned order events; threshold = threshold; longest = longest }

-- an opening of the five tapes
abbrev pub session : (threshold longest : ℕ) → Call (Opening Scanner) Scanner
session threshold longest = Open (opened scanners.order_of events offsets threshold longest)

-- a next that wants every list, with a row of 16 places
abbrev pub next : {K : Type 0} → Call (Opening K) K
next = Next all_wants 16

-- the answers to some calls
abbrev pub answers : {K : Type 0} → (K → K → Order) → List (Call (Opening K) K) → List Answer
answers order calls = map answer_of (reverse (run (world order) (reverse calls)))

-- an answer with codes in place of lexicon places
abbrev pub coded : Answer → Answer
coded (refusing r) = refusing r
coded accepted = accepted
coded (pattern p s) = pattern (map scanners.code_of (picked (learned scanners.order_of events) p)) s
coded end = end
coded (counted s) = counted s
coded (told t n) = told t n

-- the answers to some calls about the five tapes, in codes
abbrev pub said : List (Call (Opening Scanner) Scanner) → List Answer
said calls = map coded (answers scanners.order_of calls)
