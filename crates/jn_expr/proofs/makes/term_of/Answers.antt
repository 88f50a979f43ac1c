use Rattle.jn_expr.specs.Envs.{here_at}
use Rattle.jn_expr.proofs.Making.{term_there, term_refused}
use Rattle.jn_expr.proofs.makes.term_of.Goals as goal

pub returns-in-Ok-clause-told : goal.returns-in-Ok-clause-told
returns-in-Ok-clause-told c =
    term_there c.args.p.now (here_at c.args.class.now c.args.m.now c.args.env.now.vars.list) c.args.role c.args.t.now c.in_ok-spot.spot
    c.in_ok-spot.ensures c.in-Ok.atom (c.in-Ok.ensures.told c.requires.filled)

pub returns-clause-told : goal.returns-clause-told
returns-clause-told c =
    term_refused c.args.p.now (here_at c.args.class.now c.args.m.now c.args.env.now.vars.list) c.args.role c.args.t.now c.in_ok-spot.spot
    c.in_ok-spot.ensures c.in-Err.fault _ c.of_names.ensures (c.in-Err.ensures.told c.requires.filled)
