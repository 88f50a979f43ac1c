use Rattle.jn_printer.proofs.OperandProof.{operand_law}
use Rattle.jn_printer.proofs.examples.operands.Goals as goal

pub returns : goal.returns
returns c = operand_law
