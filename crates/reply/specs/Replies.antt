-- What the lister answers to an input, by what it lists.
use Rattle.std.specs.Prelude.{ℕ, List, [], ◌∷◌, Some, None, Ok, Err, Option, Result}
use Rattle.event.specs.declared.order.Order.{Order}
use Rattle.event.specs.Scanners as scanner
use Rattle.event.specs.Stations as station
use Rattle.bundle.specs.declared.fault.BundleFault.{BundleFault}
use Rattle.bundle.specs.Bundles.{offsets_in, events_of, file_fault}
use Rattle.matching.specs.Checks.{first_wrong}
use Rattle.matching.specs.Learning.{learned, learn_refusal}
use Rattle.query.specs.declared.line.Query.{Query}
use Rattle.query.specs.declared.line.QueryFault.{QueryFault}
use Rattle.report.specs.declared.fault.ListerFault.{ListerFault}
use Rattle.report.specs.declared.fault.ListerFault.TheVariants as lister
use Rattle.report.specs.Texts.{refused_text}
use Rattle.reply.specs.declared.input.FileKind.{FileKind}
use Rattle.reply.specs.declared.input.FileKind.TheVariants.{Scanner, Station}
use Rattle.reply.specs.Inputs.{query_line, bundle_part, requested, kind_for}
use Rattle.reply.specs.Listed.{Listed, then_session}

-- the fault of the query, else of the rest
abbrev pub either_fault : Result Query QueryFault → (Query → Option ListerFault) → Option ListerFault
either_fault (Err f) rest = Some (lister.Query f)
either_fault (Ok q) rest = rest q

module _ (l : Listed) where
  -- what is wrong with a bundle file of a kind, with the lexicon of at most 1,024 events that is learned from it, or with listing it, if anything
  abbrev pub reading_fault : {K : Type 0} → (number width : ℕ) → (List ℕ → Option K) → (K → K → Order) → Query → List ℕ → Option ListerFault
  reading_fault number width stands order query file =
      then_session (file_fault number width stands file)
      (first_wrong
      (learn_refusal order (events_of width stands file) 1024
      ∷ l.refusal order query (offsets_in file) (events_of width stands file) (learned order (events_of width stands file))
      ∷ []))

  -- the same by the file's kind
  abbrev pub kind_fault : Result FileKind BundleFault → Query → List ℕ → Option ListerFault
  kind_fault (Ok Scanner) query file = reading_fault 1 2 scanner.stands_for scanner.order_of query file
  kind_fault (Ok Station) query file = reading_fault 2 4 station.stands_for station.order_of query file
  kind_fault (Err f) query file = Some (lister.Bundle f)

  -- why the lister refuses an input, if it does: the input's length, the query line, the bundle, learning, the list, in this order
  abbrev pub fault_in : List ℕ → Option ListerFault
  fault_in input = either_fault (requested input) (λ q. kind_fault (kind_for (bundle_part input)) q (bundle_part input))

  -- the lines of a bundle file of a kind, with the lexicon that is learned from it
  abbrev pub kind_text : {K : Type 0} → (width : ℕ) → (List ℕ → Option K) → (K → K → Order) → (K → List ℕ) → Query → List ℕ → List ℕ
  kind_text width stands order label query file =
      l.lines order label query (offsets_in file) (events_of width stands file) (learned order (events_of width stands file))

  -- the same of a query and a bundle file as they were read, by the file's kind
  abbrev pub list_text : Result Query QueryFault → Result FileKind BundleFault → List ℕ → List ℕ
  list_text (Ok q) (Ok Scanner) file = kind_text 2 scanner.stands_for scanner.order_of scanner.label_of q file
  list_text (Ok q) (Ok Station) file = kind_text 4 station.stands_for station.order_of station.label_of q file
  list_text (Ok q) (Err f) file = []
  list_text (Err f) k file = []

  -- the text that is written: the list, or the line of the refusal
  abbrev pub answer_text : Option ListerFault → List ℕ → List ℕ
  answer_text (Some f) input = refused_text f (query_line input) (bundle_part input)
  answer_text None input = list_text (requested input) (kind_for (bundle_part input)) (bundle_part input)

  abbrev pub reply_text : List ℕ → List ℕ
  reply_text input = answer_text (fault_in input) input
