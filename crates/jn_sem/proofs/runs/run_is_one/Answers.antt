use Rattle.jn_sem.proofs.RunLaws.{run_is_one}
use Rattle.jn_sem.proofs.runs.run_is_one.Goals as goal

pub returns : goal.returns
returns c = run_is_one
