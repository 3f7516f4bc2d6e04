-- How a call that appends a list ends.
use Rattle.std.specs.Prelude.{◌≡◌, ℕ, List, ◌++◌, Some, None, Ok, Err, Option, Result}
use Rattle.report.specs.declared.fault.ListerFault.{ListerFault}
use Rattle.reply.specs.declared.contents.ListError.{ListError}
use Rattle.reply.specs.declared.contents.ListError.TheVariants.{Refused, Memory}

-- what holds of a fault, the text before, the list that is asked for and the text after, by the answer:
-- the list was appended and there is no fault, or the text is as it was and the fault is returned, or memory was short
abbrev pub Outcome : Option ListerFault → (was list is : List ℕ) → Result (Unit {0}) ListError → Type 0
Outcome fault was list is (Ok u) = (fault ≡ None) × (is ≡ was ++ list)
Outcome fault was list is (Err (Refused f)) = (fault ≡ Some f) × (is ≡ was)
Outcome fault was list is (Err Memory) = Unit {0}
