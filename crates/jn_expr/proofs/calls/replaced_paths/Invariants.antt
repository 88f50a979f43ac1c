use Rattle.std.proofs.Common.{◌≡◌, take}
use Rattle.jn_rules.specs.Exprs.{replaced_paths}
use Rattle.jn_expr.proofs.calls.replaced_paths.Given as goal

abbrev pub invariant-loop-v : goal.invariant-loop-v
invariant-loop-v l = l.all.items ≡ replaced_paths (take l.v-index l.vars)
