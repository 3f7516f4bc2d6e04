use Rattle.regular.proofs.table.Table.+follows.Given as goal

abbrev pub decreases-follows : goal.decreases-follows
decreases-follows l = l.n
