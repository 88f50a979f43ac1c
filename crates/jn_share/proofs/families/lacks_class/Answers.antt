use Rattle.jn_share.proofs.Refusing.{lacks_there}
use Rattle.jn_share.proofs.families.lacks_class.Goals as goal

pub returns-in_ok-there-in-Shares : goal.returns-in_ok-there-in-Shares
returns-in_ok-there-in-Shares c = λ p f.
    lacks_there p c.args.at.now c.args.list c.args.name c.in_ok-there-in-Shares.there c.is_class.result c.in-Shares.is c.in_ok-there-in-Shares.ensures (c.is_class.ensures p f)
