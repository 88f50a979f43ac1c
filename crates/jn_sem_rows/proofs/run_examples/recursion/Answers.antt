use Rattle.jn_sem_rows.proofs.RecursionProof.{recursions}
use Rattle.jn_sem_rows.proofs.run_examples.recursion.Goals as goal

pub returns : goal.returns
returns c = recursions
