use Rattle.regular.proofs.table.Table.+last.Given as goal

abbrev pub decreases-last : goal.decreases-last
decreases-last l = l.n
