use Rattle.jn_sem_rows.proofs.OperatorsProof.{operator_rows}
use Rattle.jn_sem_rows.proofs.run_examples.operator_rows.Goals as goal

pub returns : goal.returns
returns c = operator_rows
