use Rattle.jn_share.proofs.Grouped.{members_related}
use Rattle.jn_share.proofs.firsts.class_row.Goals as goal

pub returns-clause-class : goal.returns-clause-class
returns-clause-class c = λ p V asked ready at one settled.
    c.in_ok-row.ensures p V asked ready at one settled
    (members_related p c.args.t.now c.args.g.now asked.groups c.args.lists.now c.requires.lists c.args.v.0 V at one c.members_of-among.result.now c.members_of-among.ensures.are)
