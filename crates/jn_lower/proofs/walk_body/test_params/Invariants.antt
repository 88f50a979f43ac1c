use Rattle.std.proofs.Common.{◌≡◌, ◌++◌, drop}
use Rattle.jn_lower.specs.Written.{param_tests}
use Rattle.jn_lower.proofs.walk_body.test_params.Given as goal

abbrev pub invariant-loop-x : goal.invariant-loop-x
invariant-loop-x l = record {
  instrs : l.out.instrs ++ param_tests l.q (drop l.x-index l.params) ≡ l.fn.out.instrs ++ param_tests 1 l.params;
  locals : l.out.locals ≡ l.fn.out.locals;
}
