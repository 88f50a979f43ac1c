use Rattle.std.proofs.Common.{◌≡◌, length, take}
use Rattle.jn_closure.specs.Marks.{AreMarks, Adds}
use Rattle.jn_closure.proofs.marks.visit_all.Given as goal

abbrev pub invariant-loop-target : goal.invariant-loop-target
invariant-loop-target l = record {
  long : length l.marks.items ≡ length l.initial.marks.items;
  marked : AreMarks l.nodes.items l.marks.items;
  added : Adds (take l.target-index l.targets) l.initial.nodes.items l.nodes.items;
}
