use Rattle.matching.proofs.Rises.{lexicon_stands}
use Rattle.matching.proofs.lexicon.lexicon_stands.Goals as goal

pub returns : goal.returns
returns g c =
    lexicon_stands g.K.Kind.order
    (record { itself = g.met.K.Kind.alike_itself; exchanged = g.met.K.Kind.exchanged; carried = g.met.K.Kind.carried })
