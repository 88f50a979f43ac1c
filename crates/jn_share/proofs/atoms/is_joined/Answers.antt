use Rattle.jn_share.proofs.Inside.{joined_here, not_joined}
use Rattle.jn_share.proofs.atoms.is_joined.Goals as goal

pub returns-in-None-after : goal.returns-in-None-after
returns-in-None-after c = not_joined c.args.names.now c.in-Some.rest.now c.args.a.now c.args.b.now c.args.c.now c.in-Some.ensures.some c.in-None-after.ensures.none

pub returns-in-Some-after : goal.returns-in-Some-after
returns-in-Some-after c =
    joined_here c.args.names.now c.in-Some.rest.now c.in-Some-after.last.now c.args.a.now c.args.b.now c.args.c.now c.same_names.result
    c.in-Some.ensures.some c.in-Some-after.ensures.some c.same_names.ensures
