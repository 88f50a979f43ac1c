use Rattle.jn_lower.proofs.ParamVars.{ParamsTo}
use Rattle.jn_lower.proofs.param_vars.params_at.Given as goal

abbrev pub invariant-loop-x : goal.invariant-loop-x
invariant-loop-x l = ParamsTo l.t l.spot l.params l.x-index l.known.list
