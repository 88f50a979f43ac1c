use Rattle.std.proofs.Common.{List, subst}
use Rattle.jn_base.specs.declared.tree.Param.{Param}
use Rattle.jn_lower.specs.Known.{ParamsFound}
use Rattle.jn_lower.proofs.NextLocals.{if_ok}
use Rattle.jn_lower.proofs.ParamVars.{header_vars}
use Rattle.jn_lower.proofs.param_vars.params_of.Goals as goal

pub returns : goal.returns
returns c =
    if_ok c.params_at.result (λ vs found. header_vars c.args.t.now c.args.class.now c.args.m.now c.in_ok-spot.spot vs.list
    c.in_ok-spot.ensures
    (subst (λ (xs : List Param). ParamsFound c.args.t.now c.in_ok-spot.spot xs vs.list) c.as_slice.ensures found))
    c.params_at.ensures
