use Rattle.std.proofs.Common.{◌≡◌, ◌-◌, length, take}
use Rattle.jn_check.proofs.leaving.keep_vars.Given as goal

abbrev pub invariant-loop-vars : goal.invariant-loop-vars
invariant-loop-vars l = take l.count l.vars.list ≡ take l.count l.fn.vars.list

abbrev pub decreases-loop-vars : goal.decreases-loop-vars
decreases-loop-vars l = length l.vars.list - l.count
