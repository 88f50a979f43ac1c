use Rattle.jn_rule_laws.proofs.RepliesOne.{replies_one}
use Rattle.jn_rule_laws.proofs.questions_have_one_reply.Goals as goal

pub returns : goal.returns
returns c p ok its q a b h k = replies_one p ok its q a b h k
