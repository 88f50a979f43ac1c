use Rattle.jn_sem.proofs.RunLaws.{run_is_there}
use Rattle.jn_sem.proofs.runs.run_is_there.Goals as goal

pub returns : goal.returns
returns c = run_is_there
