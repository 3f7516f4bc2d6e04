use Rattle.regular.proofs.Sets.{member_or}
use Rattle.regular.proofs.set.PlacesBitOrAssign.bitor_assign.Goals as goal

pub returns : goal.returns
returns c = record { after = member_or c.args.self.now c.args.other }
