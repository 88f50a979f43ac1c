use Rattle.jn_expr.specs.Envs.{parts}
use Rattle.jn_check.proofs.Verdicts.{are_parts, bodies_told, bodies_pass, bodies_known}
use Rattle.jn_check.proofs.verdict.behind_headers.Goals as goal

pub check_bodies-requires : goal.check_bodies-requires
check_bodies-requires c =
    are_parts c.args.p.now c.args.table c.args.headers (parts c.in_ok-env.env) c.requires.limits c.requires.once c.requires.parts c.in_ok-env.ensures

pub behind_bodies-requires-clause-passes : goal.behind_bodies-requires-clause-passes
behind_bodies-requires-clause-passes c =
    bodies_pass c.args.p.now c.new-bodies.result.items c.check_bodies.new.out.items c.requires.once c.requires.passes c.in-Ok.ensures.told

pub behind_bodies-requires-clause-bodies : goal.behind_bodies-requires-clause-bodies
behind_bodies-requires-clause-bodies c =
    bodies_known c.args.p.now c.new-bodies.result.items c.check_bodies.new.out.items c.new-bodies.ensures.items c.in-Ok.ensures.told

pub returns-in-Err : goal.returns-in-Err
returns-in-Err c =
    bodies_told c.args.p.now c.in-Err.fault c.new-bodies.result.items c.check_bodies.new.out.items c.requires.once c.requires.passes c.in-Err.ensures.told
