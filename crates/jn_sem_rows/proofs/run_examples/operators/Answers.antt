use Rattle.jn_sem_rows.proofs.MainRunsProof.{operators}
use Rattle.jn_sem_rows.proofs.run_examples.operators.Goals as goal

pub returns : goal.returns
returns c = operators
