use Rattle.jn_normal.proofs.rewriting.+normal_from.Given as goal

abbrev pub decreases-normal_from : goal.decreases-normal_from
decreases-normal_from l = l.n
