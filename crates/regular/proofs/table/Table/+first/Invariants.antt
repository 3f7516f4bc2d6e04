use Rattle.regular.proofs.table.Table.+first.Given as goal

abbrev pub decreases-first : goal.decreases-first
decreases-first l = l.n
