use Rattle.std.proofs.Common.{◌≡◌, ◌++◌, drop, map}
use Rattle.jn_layout.specs.Shapes.{param_kind}
use Rattle.jn_layout.proofs.declared.kinds_of.Given as goal

abbrev pub invariant-loop-x : goal.invariant-loop-x
invariant-loop-x l = l.all.items ++ map param_kind (drop l.x-index l.params) ≡ map param_kind l.params
