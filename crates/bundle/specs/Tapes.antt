-- The tapes that offsets cut events into.
use Rattle.std.specs.Prelude.{ℕ, ◌-◌, List, [], ◌∷◌, take, drop}
use Rattle.bundle.specs.declared.tape.Tapes.{Tapes}

-- the events from a place up to, and without, another
abbrev pub between : {K : Type 0} → List K → ℕ → ℕ → List K
between events from to = take (to - from) (drop from events)

-- the tapes behind an offset: each runs from one offset to just before the next
abbrev pub cut : {K : Type 0} → List K → ℕ → List ℕ → List (List K)
cut events from [] = []
cut events from (to ∷ offsets) = between events from to ∷ cut events to offsets

-- the tapes, in order
abbrev pub tapes : {K : Type 0} → List K → List ℕ → List (List K)
tapes events [] = []
tapes events (from ∷ offsets) = cut events from offsets

-- the tapes in two lent rows
abbrev pub all_tapes : {K : Type 0} → Tapes K → List (List K)
all_tapes rows = tapes rows.events.now rows.offsets.now
