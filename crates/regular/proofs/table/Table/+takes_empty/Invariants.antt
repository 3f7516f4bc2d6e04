use Rattle.regular.proofs.table.Table.+takes_empty.Given as goal

abbrev pub decreases-takes_empty : goal.decreases-takes_empty
decreases-takes_empty l = l.n
