use Rattle.jn_sem.proofs.RunLaws.{run_goes_on}
use Rattle.jn_sem.proofs.runs.run_goes_on.Goals as goal

pub returns : goal.returns
returns c = run_goes_on
