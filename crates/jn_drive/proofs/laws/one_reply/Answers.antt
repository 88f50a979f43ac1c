use Rattle.jn_drive.proofs.OneReply.{one_reply}
use Rattle.jn_drive.proofs.laws.one_reply.Goals as goal

pub returns : goal.returns
returns c = one_reply
