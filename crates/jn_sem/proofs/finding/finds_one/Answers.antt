use Rattle.jn_sem.proofs.FindingLaws.{finds_one}
use Rattle.jn_sem.proofs.finding.finds_one.Goals as goal

pub returns : goal.returns
returns c = finds_one
