use Rattle.std.proofs.Common.{◌∙◌}
use Rattle.jn_expr.specs.Envs.{here_at}
use Rattle.jn_expr.proofs.Viewing.{target_there, target_refused}
use Rattle.jn_expr.proofs.views.target_of.Goals as goal

pub returns-in-Ok-clause-told : goal.returns-in-Ok-clause-told
returns-in-Ok-clause-told c =
    target_there c.args.p.now (here_at c.args.class.now c.args.m.now c.args.env.now.vars.list) c.args.view.now c.deref.result.now c.in_ok-spot.spot
    (c.deref.ensures.value ∙ c.requires.masks) c.in_ok-spot.ensures c.in-Ok.ty (c.in-Ok.ensures.told c.requires.filled)

pub returns-clause-told : goal.returns-clause-told
returns-clause-told c =
    target_refused c.args.p.now (here_at c.args.class.now c.args.m.now c.args.env.now.vars.list) c.args.view.now c.deref.result.now c.in_ok-spot.spot
    (c.deref.ensures.value ∙ c.requires.masks) c.in_ok-spot.ensures c.in-Err.fault _ c.of_names.ensures (c.in-Err.ensures.told c.requires.filled)
