use Rattle.std.proofs.Common.{◌≡◌, ◌++◌, drop, map}
use Rattle.jn_lower.specs.Written.{param_kind}
use Rattle.jn_lower.proofs.walk_body.declare_params.Given as goal

abbrev pub invariant-loop-x : goal.invariant-loop-x
invariant-loop-x l = record {
  instrs : l.out.instrs ≡ l.fn.out.instrs;
  kinds : l.out.locals.kinds ++ map param_kind (drop l.x-index l.params) ≡ l.fn.out.locals.kinds ++ map param_kind l.params;
  scratch : l.out.locals.scratch ≡ l.fn.out.locals.scratch;
}
