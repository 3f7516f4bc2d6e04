use Rattle.std.specs.Prelude.{ℕ, List, take, drop}
use Rattle.event.specs.declared.span.Span.{Span}

-- the span of a start and a length
abbrev pub span : ℕ → ℕ → Span
span from count = record { start = from; length = count }

-- the part of some bytes that begins at a place and has a length
abbrev pub part : ℕ → ℕ → List ℕ → List ℕ
part from count bytes = take count (drop from bytes)

-- the part of some bytes that a span names
abbrev pub spanned : List ℕ → Span → List ℕ
spanned bytes s = part s.start s.length bytes
