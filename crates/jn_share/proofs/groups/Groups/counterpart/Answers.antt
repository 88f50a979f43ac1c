use Rattle.jn_share.proofs.Reading.{counterpart_says, none_of}
use Rattle.jn_share.proofs.groups.Groups.counterpart.Goals as goal

pub returns : goal.returns
returns c =
    counterpart_says c.args.self.now c.args.a c.args.family c.deref.result.now c.deref-2.result.now c.counterpart.result c.deref.ensures.value c.deref-2.ensures.value
    c.counterpart.ensures.some (none_of c.deref.result.now c.deref-2.result.now c.args.a c.args.family c.counterpart.result c.counterpart.ensures.none)
