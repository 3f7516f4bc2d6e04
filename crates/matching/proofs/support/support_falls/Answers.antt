use Rattle.matching.proofs.Counting.{support_falls}
use Rattle.matching.proofs.support.support_falls.Goals as goal

pub returns : goal.returns
returns g c = support_falls g.K.Kind.order
