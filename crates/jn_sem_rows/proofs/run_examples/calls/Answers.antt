use Rattle.jn_sem_rows.proofs.CallsProof.{calls}
use Rattle.jn_sem_rows.proofs.run_examples.calls.Goals as goal

pub returns : goal.returns
returns c = calls
