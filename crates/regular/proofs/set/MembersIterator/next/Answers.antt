use Rattle.std.proofs.Common.{arith}
use Rattle.std.proofs.lemmas.Bool.{iff_false}
use Rattle.regular.proofs.Sets.{takes_lowest, without_less}
use Rattle.regular.proofs.set.MembersIterator.next.Goals as goal

pub overflow_shl-self : goal.overflow_shl-self
overflow_shl-self c = (takes_lowest c.args.self.now.left (iff_false c.is_empty.ensures c.if-is_empty.false) (omega arith)).within

pub returns-clause-steps : goal.returns-clause-steps
returns-clause-steps c = takes_lowest c.args.self.now.left (iff_false c.is_empty.ensures c.if-is_empty.false) (omega arith)

pub returns-clause-goes : goal.returns-clause-goes
returns-clause-goes c =
    let taken = takes_lowest c.args.self.now.left (iff_false c.is_empty.ensures c.if-is_empty.false) (omega arith) in
    record { on = λ _. (tt, tt, without_less c.args.self.now.left _ taken.within taken.has); keeps = tt; rests = λ _. tt }
