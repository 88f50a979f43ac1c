use Rattle.jn_names.proofs.MemberSays.{says_super}
use Rattle.jn_names.proofs.members.Members.is_super.Goals as goal

pub returns : goal.returns
returns c =
    says_super c.args.self.now c.args.id c.args.other c.deref.result.now c.has_sup.result c.deref.ensures.value
    c.has_sup.ensures
