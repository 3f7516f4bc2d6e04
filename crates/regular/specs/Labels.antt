-- What stands at the leaves of an expression.
use Rattle.std.specs.Prelude.{Bool, true}
use Rattle.event.specs.declared.order.Order.{Order}
use Rattle.event.specs.Orders.{is_alike}
use Rattle.regular.specs.declared.label.Label.{Label}
use Rattle.regular.specs.declared.label.Label.TheVariants.{Any, Event}

-- any one event meets a dot, and an event that is alike to a label's meets the label
abbrev pub suits : {K : Type 0} → (K → K → Order) → Label K → K → Bool
suits order Any e = true
suits order (Event l) e = is_alike (order l e)
