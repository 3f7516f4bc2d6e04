use Rattle.matching.proofs.Embedded.{inclusion_is_embedding}
use Rattle.matching.proofs.inclusion.inclusion_stands.Goals as goal

pub returns : goal.returns
returns g c = inclusion_is_embedding g.K.Kind.order
