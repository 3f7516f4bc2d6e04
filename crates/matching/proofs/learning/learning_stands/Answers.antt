use Rattle.matching.proofs.Classes.{learning_stands}
use Rattle.matching.proofs.learning.learning_stands.Goals as goal

pub returns : goal.returns
returns g c =
    learning_stands g.K.Kind.order
    (record { itself = g.met.K.Kind.alike_itself; exchanged = g.met.K.Kind.exchanged; carried = g.met.K.Kind.carried })
