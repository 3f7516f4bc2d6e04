-- What the lister answers to an input.
use Rattle.std.specs.Prelude.{◌≡◌, ℕ, ◌-◌, List, [], ◌∷◌, ◌++◌, length, None, Option}
use Rattle.std.specs.List.{flat_map}
use Rattle.event.specs.declared.order.Order.{Order}
use Rattle.bundle.specs.Bundles.{events_of, file_fault}
use Rattle.bundle.specs.Tapes.{tapes}
use Rattle.matching.specs.Learning.{learn_refusal}
use Rattle.matching.specs.Support.{support}
use Rattle.query.specs.declared.line.Query.{Query}
use Rattle.report.specs.declared.fault.ListerFault.{ListerFault}
use Rattle.report.specs.Texts.{head_text, pattern_text}
use Rattle.reply.specs.Listed.{Listed, then_session}
use Rattle.reply.specs.Replies as reply
use Rattle.reply.specs.Replies.{reading_fault}

-- an event as a pattern, with its support
abbrev pub event_text : {K : Type 0} → (K → K → Order) → (K → List ℕ) → List (List K) → K → List ℕ
event_text order label tapes event = pattern_text label (support order tapes (event ∷ [])) (event ∷ [])

-- the lines of a query and a bundle: what was read, and each event of a lexicon with its support
abbrev pub supports_text : {K : Type 0} → (K → K → Order) → (K → List ℕ) → Query → (offsets : List ℕ) → (events lexicon : List K) → List ℕ
supports_text order label query offsets events lexicon =
    head_text (length offsets - 1) (length events) query.threshold query.longest ++ flat_map (event_text order label (tapes events offsets)) lexicon

-- these lines are listed of every bundle that was read and whose lexicon was learned
abbrev pub supports : Listed
supports = record { refusal = λ order query offsets events lexicon. None; lines = supports_text }

-- why the lister refuses an input, if it does: the input's length, the query line, the bundle, learning, in this order
abbrev pub fault_in : List ℕ → Option ListerFault
fault_in = reply.fault_in supports

-- the text that is written: the list, or the line of the refusal
abbrev pub reply_text : List ℕ → List ℕ
reply_text = reply.reply_text supports

-- what is wrong with a bundle file of a kind, if anything, is wrong with its bytes or with the lexicon of at most 1,024 events that is learned from it
abbrev pub OnlyLearning : {K : Type 0} → (number width : ℕ) → (List ℕ → Option K) → (K → K → Order) → Type 0
OnlyLearning number width stands order =
    (query : Query) (file : List ℕ) →
    reading_fault supports number width stands order query file ≡ then_session (file_fault number width stands file) (learn_refusal order (events_of width stands file) 1024)
