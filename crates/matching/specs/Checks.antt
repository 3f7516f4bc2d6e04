-- Checks in a row, and the answer behind them.
use Rattle.std.specs.Prelude.{Bool, cond, List, [], ◌∷◌, Some, None, Ok, Err, Option, Result}
use Rattle.event.specs.declared.refusal.Refusal.{Refusal}

-- a check that passes if a test is true
abbrev pub unless : Bool → Refusal → Option Refusal
unless test refusal = cond test None (Some refusal)

-- the first refusal of several checks, if one is
abbrev pub first_wrong : List (Option Refusal) → Option Refusal
first_wrong [] = None
first_wrong (Some refusal ∷ checks) = Some refusal
first_wrong (None ∷ checks) = first_wrong checks

-- an answer, or the refusal that stands in its place
abbrev pub or_refused : {X : Type 0} → Option Refusal → X → Result X Refusal
or_refused None x = Ok x
or_refused (Some refusal) x = Err refusal
