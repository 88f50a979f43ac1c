use Rattle.std.proofs.Common.{drop}
use Rattle.jn_base.specs.Paths.{fields}
use Rattle.jn_expr.specs.Found.{field_name}
use Rattle.jn_expr.proofs.Naming.{Searched}
use Rattle.jn_expr.proofs.lookup.field_in.Given as goal

abbrev pub invariant-loop-m : goal.invariant-loop-m
invariant-loop-m l = Searched fields field_name l.members (drop l.m-index l.members) l.name
