use Rattle.std.proofs.Common.{drop}
use Rattle.jn_base.specs.Paths.{methods}
use Rattle.jn_expr.specs.Found.{method_name}
use Rattle.jn_expr.proofs.Naming.{Searched}
use Rattle.jn_expr.proofs.lookup.method_in.Given as goal

abbrev pub invariant-loop-m : goal.invariant-loop-m
invariant-loop-m l = Searched methods method_name l.members (drop l.m-index l.members) l.name
