-- The law of filters holds of expressions: the proof that the filter gives as its member `fruitless`.
use Rattle.event.specs.declared.order.Order.{Order}
use Rattle.filter.specs.Filters.{NoneAfter}
use Rattle.regular.specs.declared.expression.Expression.{Expression}
use Rattle.regular.specs.Expressions.{expression_wants, expression_barren}
use Rattle.regular.proofs.Standing.{no_extension_wanted}

pub matches_stands : {K : Type 0} (order : K → K → Order) (x : Expression K) → NoneAfter (expression_wants order x) (expression_barren order x)
matches_stands order x list event rest b = no_extension_wanted order x list event rest b
