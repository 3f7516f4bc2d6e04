use Rattle.regular.proofs.Sets.{member_or}
use Rattle.regular.proofs.set.PlacesBitOr.bitor.Goals as goal

pub returns : goal.returns
returns c = member_or c.args.self c.args.other
