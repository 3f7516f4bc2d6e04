use Rattle.bundle.proofs.Format.{format_stands}
use Rattle.bundle.proofs.reader.format_stands.Goals as goal

pub returns : goal.returns
returns g c = format_stands g.K.Kind.NUMBER g.K.Kind.WIDTH g.K.Kind.stands
