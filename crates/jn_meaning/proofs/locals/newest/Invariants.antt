use Rattle.std.proofs.Common.{◌≤◌, length}
use Rattle.jn_meaning.specs.Newest.{NoneFrom}
use Rattle.jn_meaning.proofs.locals.newest.Given as goal

abbrev pub invariant-loop-left : goal.invariant-loop-left
invariant-loop-left l = record {
  within : l.left ≤ length l.vars;
  none : NoneFrom l.vars l.x l.left;
}

abbrev pub decreases-loop-left : goal.decreases-loop-left
decreases-loop-left l = l.left
