use Rattle.regular.proofs.Sets.{member_only}
use Rattle.regular.proofs.set.Places.only.Goals as goal

pub returns : goal.returns
returns c = member_only c.args.place c.requires
