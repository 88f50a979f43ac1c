use Rattle.jn_sem_rows.proofs.VoidOperandProof.{void_operand_rows}
use Rattle.jn_sem_rows.proofs.run_examples.void_operand.Goals as goal

pub returns : goal.returns
returns c = void_operand_rows
