use Rattle.std.proofs.Common.{drop}
use Rattle.std.specs.List.{AllByRecursion}
use Rattle.jn_code.specs.Form.{IsKind}
use Rattle.jn_lower.proofs.formed.are_kinds.Given as goal

abbrev pub invariant-loop-kind : goal.invariant-loop-kind
invariant-loop-kind l = AllByRecursion IsKind (drop l.kind-index l.kinds) → AllByRecursion IsKind l.kinds
