use Rattle.std.specs.Prelude.{Some, None, Option}
use Rattle.event.specs.declared.refusal.Refusal.{Refusal}
use Rattle.event.specs.declared.refusal.Refusal.TheVariants as refusal
use Rattle.event.specs.declared.span.Span.{Span}
use Rattle.event.specs.Spans.{span}
use Rattle.bundle.specs.declared.fault.BundleFault.{BundleFault}
use Rattle.bundle.specs.declared.fault.BundleFault.TheVariants.{Short, Over, Kind, Size, Offsets, Event, Room}

-- the refusal that a fault is
abbrev pub refusal_of : BundleFault → Refusal
refusal_of Short = refusal.Short
refusal_of Over = refusal.Over
refusal_of Kind = refusal.Kind
refusal_of Size = refusal.Size
refusal_of (Offsets i s) = refusal.Offsets
refusal_of (Event i s) = refusal.Event
refusal_of Room = refusal.Room

-- the bytes at fault: the kind's two, the wrong offset's or the wrong event's
abbrev pub span_of : BundleFault → Option Span
span_of Short = None
span_of Over = None
span_of Kind = Some (span 0 2)
span_of Size = None
span_of (Offsets i s) = Some s
span_of (Event i s) = Some s
span_of Room = None
