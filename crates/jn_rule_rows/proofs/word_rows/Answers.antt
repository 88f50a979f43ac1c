use Rattle.jn_rule_rows.proofs.WordProof.{word_rows}
use Rattle.jn_rule_rows.proofs.word_rows.Goals as goal

pub returns : goal.returns
returns c = word_rows
