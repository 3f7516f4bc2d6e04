-- The place behind a pattern, event by event.
use Rattle.std.proofs.Common.{◌≡◌, ℕ, ◌+◌, ◌<◌, ◌≤◌, true, List, [], ◌∷◌, ◌++◌, length, get_or, drop, is_some, Some, None, Option, sym, refl, ap, ◌∙◌}
use Rattle.std.proofs.lemmas.List.{at_drop_more, at_drop_all}
use Rattle.event.specs.declared.order.Order.{Order}
use Rattle.matching.specs.Inclusion.{place_after, reach_from, includes}

module _ {K : Type 0} (order : K → K → Order) (tape : List K) where
  -- from none no pattern is reached
  pub reach_none : (pattern : List K) → reach_from order tape None pattern ≡ None
  reach_none [] = refl
  reach_none (e ∷ es) = refl

  -- a pattern and what is behind it
  pub reach_append : (from : Option ℕ) (pattern more : List K) → reach_from order tape from (pattern ++ more) ≡ reach_from order tape (reach_from order tape from pattern) more
  reach_append from [] more = refl
  reach_append (Some place) (e ∷ es) more = reach_append (place_after order tape place e) es more
  reach_append None (e ∷ es) more = sym (reach_none more)

  -- what begins a pattern that is reached is reached
  some_before : (from : Option ℕ) (pattern : List K) → is_some (reach_from order tape from pattern) ≡ true → is_some from ≡ true
  some_before (Some place) pattern h = refl
  some_before None pattern h = sym (ap is_some (reach_none pattern)) ∙ h

  pub begins : (pattern more : List K) → includes order tape (pattern ++ more) ≡ true → includes order tape pattern ≡ true
  begins pattern more h =
      some_before (reach_from order tape (Some 0) pattern) more (sym (ap is_some (reach_append (Some 0) pattern more)) ∙ h)

  -- a turn that goes on, one that stops, and the end
  module _ (place : ℕ) (pattern : List K) (i : ℕ) (event : K) (within : i < length pattern) (is : event ≡ get_or pattern i event) where
    turn : reach_from order tape (place_after order tape place event) (drop (i + 1) pattern) ≡ reach_from order tape (Some place) (drop i pattern)
    turn =
        sym (at_drop_more (reach_from order tape (Some place)) pattern i event within ∙ ap (λ (e : K). reach_from order tape (place_after order tape place e) (drop (i + 1) pattern)) (sym is))

    pub reach_on : (next : ℕ) → Some next ≡ place_after order tape place event → reach_from order tape (Some next) (drop (i + 1) pattern) ≡ reach_from order tape (Some place) (drop i pattern)
    reach_on next e = ap (λ (o : Option ℕ). reach_from order tape o (drop (i + 1) pattern)) e ∙ turn

    pub reach_stops : None ≡ place_after order tape place event → None ≡ reach_from order tape (Some place) (drop i pattern)
    reach_stops e =
        sym (reach_none (drop (i + 1) pattern)) ∙ ap (λ (o : Option ℕ). reach_from order tape o (drop (i + 1) pattern)) e ∙ turn

  pub reach_all : (place : ℕ) (pattern : List K) (i : ℕ) → length pattern ≤ i → Some place ≡ reach_from order tape (Some place) (drop i pattern)
  reach_all place pattern i h = sym (at_drop_all (reach_from order tape (Some place)) pattern i h)
