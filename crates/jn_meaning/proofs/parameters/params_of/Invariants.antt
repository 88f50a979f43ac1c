use Rattle.std.proofs.Common.{◌≡◌}
use Rattle.jn_meaning.specs.Params.{body_at}
use Rattle.jn_meaning.proofs.ParamLists.{ParamsTo}
use Rattle.jn_meaning.proofs.parameters.params_of.Given as goal

abbrev pub invariant-loop-param : goal.invariant-loop-param
invariant-loop-param l =
    (l.t ≡ l.fn.t) × ParamsTo l.w.program.now (body_at l.fn.t.known.items l.class l.method) l.param-items l.vars.list l.param-index
