use Rattle.std.proofs.Common.{map, take}
use Rattle.jn_rules.specs.Plans.{AtomMark}
use Rattle.jn_expr.specs.Told.{Adds}
use Rattle.jn_check.proofs.types.note_atoms.Given as goal

abbrev pub invariant-loop-x : goal.invariant-loop-x
invariant-loop-x l = Adds (map AtomMark (take l.x-index l.xs)) l.fn.marks l.marks
