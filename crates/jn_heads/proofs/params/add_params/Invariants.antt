use Rattle.jn_heads.proofs.Parameters.{ParamsSoFar}
use Rattle.jn_heads.proofs.params.add_params.Given as goal

abbrev pub invariant-loop-param : goal.invariant-loop-param
invariant-loop-param l = ParamsSoFar l.p l.fn.t l.t l.fn.pool l.pool l.fn.at l.at l.params l.param-index
