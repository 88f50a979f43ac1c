use Rattle.std.proofs.Common.{◌≡◌, List, drop}
use Rattle.jn_base.specs.declared.types.Ty.{Ty}
use Rattle.jn_subtype.specs.Binds.{binds_in}
use Rattle.jn_rules.specs.Exprs.{fresh_paths}
use Rattle.jn_expr.proofs.types.next_path.Given as goal

abbrev pub invariant-loop-i : goal.invariant-loop-i
invariant-loop-i l = (pool : List Ty) → fresh_paths (drop l.i (binds_in pool l.binds)) ≡ fresh_paths (binds_in pool l.binds)
