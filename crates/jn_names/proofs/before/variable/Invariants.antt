use Rattle.std.proofs.Common.{◌≡◌, reverse, take}
use Rattle.jn_base.specs.Resolve.{of_variable, newest}
use Rattle.jn_names.specs.Before.{told_before}
use Rattle.jn_names.proofs.before.variable.Given as goal

abbrev pub invariant-loop-v : goal.invariant-loop-v
invariant-loop-v l = told_before l.found ≡ of_variable l.x (newest (reverse (take l.v-index l.vars)) l.x)
