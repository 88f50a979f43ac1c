use Rattle.jn_rule_laws.proofs.Behind.{statements_move}
use Rattle.jn_rule_laws.proofs.statements_move.Goals as goal

pub returns : goal.returns
returns c = statements_move
