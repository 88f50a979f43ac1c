use Rattle.jn_lower.proofs.Statements.{print_so}
use Rattle.jn_lower.proofs.law.print_stands.Goals as goal

pub returns : goal.returns
returns c = print_so
