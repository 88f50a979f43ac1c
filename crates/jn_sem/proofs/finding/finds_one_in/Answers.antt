use Rattle.jn_sem.proofs.FindingLaws.{finds_one_in}
use Rattle.jn_sem.proofs.finding.finds_one_in.Goals as goal

pub returns : goal.returns
returns c = finds_one_in
