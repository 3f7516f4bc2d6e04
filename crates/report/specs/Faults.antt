-- The lister's faults, and the bytes at fault.
use Rattle.std.specs.Prelude.{ℕ, List, None, Option}
use Rattle.std.specs.Option.{unwrap_or}
use Rattle.event.specs.declared.refusal.Refusal.{Refusal}
use Rattle.event.specs.declared.refusal.Refusal.TheVariants as refusal
use Rattle.event.specs.declared.span.Span.{Span}
use Rattle.event.specs.Spans.{span, spanned}
use Rattle.bundle.specs.Faults as bundle
use Rattle.query.specs.Faults.{query_refusal, query_span}
use Rattle.report.specs.declared.fault.ListerFault.{ListerFault}
use Rattle.report.specs.declared.fault.ListerFault.TheVariants.{Query, Bundle, Session}
use Rattle.report.specs.declared.fault.Source.{Source}
use Rattle.report.specs.declared.fault.Source.TheVariants as source

-- the refusal that a fault is
abbrev pub refusal_of : ListerFault → Refusal
refusal_of (Query f) = query_refusal f
refusal_of (Bundle f) = bundle.refusal_of f
refusal_of (Session r) = r

-- the input that a refusal speaks of
abbrev pub refused_source : Refusal → Source
refused_source refusal.Closed = source.Bundle
refused_source refusal.Nothing = source.Bundle
refused_source refusal.Threshold = source.Query
refused_source refusal.Length = source.Query
refused_source refusal.Size = source.Bundle
refused_source refusal.Offsets = source.Bundle
refused_source refusal.Lexicon = source.Bundle
refused_source refusal.Room = source.Bundle
refused_source refusal.Short = source.Bundle
refused_source refusal.Over = source.Bundle
refused_source refusal.Kind = source.Bundle
refused_source refusal.Event = source.Bundle
refused_source refusal.Mark = source.Query
refused_source refusal.Query = source.Query
refused_source refusal.Input = source.Query

-- which input is at fault
abbrev pub source_of : ListerFault → Source
source_of (Query f) = source.Query
source_of (Bundle f) = source.Bundle
source_of (Session r) = refused_source r

-- where there, if at some bytes
abbrev pub span_of : ListerFault → Option Span
span_of (Query f) = query_span f
span_of (Bundle f) = bundle.span_of f
span_of (Session r) = None

-- the place that is written: of the bytes at fault, or 0
abbrev pub place_of : ListerFault → Span
place_of f = unwrap_or (span_of f) (span 0 0)

-- the input at fault
abbrev pub chosen : Source → List ℕ → List ℕ → List ℕ
chosen source.Query query file = query
chosen source.Bundle query file = file

-- the bytes at fault
abbrev pub bytes_at_fault : ListerFault → List ℕ → List ℕ → List ℕ
bytes_at_fault f query file = spanned (chosen (source_of f) query file) (place_of f)
