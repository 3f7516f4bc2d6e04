-- What a trial answers, and how it leaves the head and the rows.
use Rattle.std.specs.Prelude.{◌≡◌, ℕ, ◌≤◌, List, Some, None, Option, nat_le}
use Rattle.std.specs.Bool.{then_some}
use Rattle.event.specs.declared.order.Order.{Order}
use Rattle.trail.specs.declared.level.Head.{Head}
use Rattle.trail.specs.declared.level.Rows.{Rows}
use Rattle.trail.specs.Projection.{grown}
use Rattle.trail.specs.Levels.{level, end}

-- the level that an event gives behind a head's level
abbrev pub next_level : {K : Type 0} → (K → K → Order) → List (List K) → K → Rows → Head → List (ℕ × ℕ)
next_level order tapes event rows head = grown order tapes event (level rows head)

-- a count, if it reaches what is needed
abbrev pub reaching : ℕ → ℕ → Option ℕ
reaching need count = then_some (nat_le need count) count

-- the head of a level that lies behind a head's level
abbrev pub behind : Head → ℕ → Head
behind head count = record { start = end head; count = count }

-- a trial that answers has laid the next level behind the head's, where no more entries are than in the head's
abbrev pub Laid : List (ℕ × ℕ) → Head → Rows → Option ℕ → Type 0
Laid next head rows (Some count) = (count ≤ head.count) × (level rows (behind head count) ≡ next)
Laid next head rows None = Unit {0}
