use Rattle.std.proofs.Common.{eqb, ap}
use Rattle.std.proofs.lemmas.Nat.Bits.{shr_and_one}
use Rattle.regular.specs.Members.{member}
use Rattle.regular.proofs.set.Places.contains.Goals as goal

pub returns : goal.returns
unfolding member
returns c = ap (λ n. eqb n 1) (shr_and_one c.args.self.bits c.args.place)
