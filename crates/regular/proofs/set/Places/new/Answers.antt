use Rattle.regular.proofs.Sets.{member_none}
use Rattle.regular.proofs.set.Places.new.Goals as goal

pub returns : goal.returns
returns c = member_none
