use Rattle.law.proofs.Events.{is_order_of_events}
use Rattle.law.proofs.Order.{is_strict_order}
use Rattle.law.proofs.law.order_stands.Goals as goal

pub returns : goal.returns
returns g c =
    record {
      strict = is_strict_order;
      events = is_order_of_events g.K.Kind.order g.met.K.Kind.alike_itself g.met.K.Kind.exchanged;
    }
