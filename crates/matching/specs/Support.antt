-- How many tapes include a pattern.
use Rattle.std.specs.Prelude.{◌≡◌, ℕ, ◌+◌, ◌≤◌, true, cond, List, [], ◌∷◌, ◌++◌, length}
use Rattle.event.specs.declared.order.Order.{Order}
use Rattle.matching.specs.Inclusion.{includes}

-- the number of tapes that include a pattern, each counted once
abbrev pub support : {K : Type 0} → (K → K → Order) → List (List K) → List K → ℕ
support order [] pattern = 0
support order (tape ∷ tapes) pattern = cond (includes order tape pattern) 1 0 + support order tapes pattern

-- a longer pattern has no more support
pub record SupportFalls {K : Type 0} (order : K → K → Order) : Type 0 where
  -- a tape that includes a list includes every list that it begins with
  pub begins : (tape pattern more : List K) → includes order tape (pattern ++ more) ≡ true → includes order tape pattern ≡ true
  -- so it has as much support, or less
  pub falls : (tapes : List (List K)) (pattern more : List K) → support order tapes (pattern ++ more) ≤ support order tapes pattern
  -- support is at most the number of tapes
  pub bounded : (tapes : List (List K)) (pattern : List K) → support order tapes pattern ≤ length tapes
