-- Answers as numbers.
use Rattle.std.specs.Prelude.{ℕ, ◌+◌, Ok, Err, Result}
use Rattle.event.specs.declared.refusal.Refusal.{Refusal}
use Rattle.event.specs.Refusals.{number_of}

-- an answer as it is, and a refusal as its number beyond 2 ^ 32
abbrev pub in_number : Result ℕ Refusal → ℕ
in_number (Ok n) = n
in_number (Err refusal) = 4294967296 + number_of refusal
