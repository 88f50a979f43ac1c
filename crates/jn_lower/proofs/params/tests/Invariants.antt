use Rattle.std.proofs.Common.{◌≡◌, ◌++◌, drop}
use Rattle.jn_agree.specs.Places.{tests}
use Rattle.jn_lower.proofs.params.tests.Given as goal

abbrev pub invariant-loop-x : goal.invariant-loop-x
invariant-loop-x l =
    (l.out.instrs ++ tests (drop l.x-index l.vars) ≡ l.fn.out.instrs ++ tests l.vars) × (l.out.locals ≡ l.fn.out.locals)
