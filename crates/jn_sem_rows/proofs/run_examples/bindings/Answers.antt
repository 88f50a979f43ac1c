use Rattle.jn_sem_rows.proofs.CallsProof.{bindings}
use Rattle.jn_sem_rows.proofs.run_examples.bindings.Goals as goal

pub returns : goal.returns
returns c = bindings
