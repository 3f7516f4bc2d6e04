-- What a query's fault says.
use Rattle.std.specs.Prelude.{None, Option}
use Rattle.event.specs.declared.refusal.Refusal.{Refusal}
use Rattle.event.specs.declared.refusal.Refusal.TheVariants as refusal
use Rattle.event.specs.declared.span.Span.{Span}
use Rattle.query.specs.declared.line.QueryFault.{QueryFault}
use Rattle.query.specs.declared.line.QueryFault.TheVariants.{Input, Line}

-- the refusal that a fault is
abbrev pub query_refusal : QueryFault → Refusal
query_refusal Input = refusal.Input
query_refusal Line = refusal.Query

-- no bytes are at fault
abbrev pub query_span : QueryFault → Option Span
query_span f = None
