use Rattle.std.specs.Prelude.{ℕ, cond, List, ◌++◌, length, drop, Some, None, Ok, Err, Option, Result, nat_le}
use Rattle.event.specs.declared.refusal.Refusal.{Refusal}
use Rattle.event.specs.declared.refusal.Refusal.TheVariants.{Room}

-- what there is, or else a refusal
abbrev pub or_else : {K : Type 0} → Refusal → Option K → Result K Refusal
or_else e (Some x) = Ok x
or_else e None = Err e

-- the answer of a call that writes so many at the front of a row of so many
abbrev pub written : ℕ → ℕ → Result ℕ Refusal
written n room = cond (nat_le n room) (Ok n) (Err Room)

-- a row after such a call: the new ones at its front and its rest as it was, or all as it was where they have no room
abbrev pub laid : {X : Type 0} → List X → List X → List X
laid xs row = cond (nat_le (length xs) (length row)) (xs ++ drop (length xs) row) row
