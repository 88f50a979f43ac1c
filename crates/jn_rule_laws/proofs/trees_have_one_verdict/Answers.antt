use Rattle.jn_rule_laws.proofs.Verdicts.{one_tree}
use Rattle.jn_rule_laws.proofs.trees_have_one_verdict.Goals as goal

pub returns : goal.returns
returns c p its = one_tree p its
