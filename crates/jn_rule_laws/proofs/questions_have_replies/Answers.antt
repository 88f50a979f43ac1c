use Rattle.jn_rule_laws.proofs.Replies.{reply_there}
use Rattle.jn_rule_laws.proofs.questions_have_replies.Goals as goal

pub returns : goal.returns
returns c p q = reply_there p q
