use Rattle.std.proofs.Common.{take}
use Rattle.jn_table.specs.Level.{ChildPaths}
use Rattle.jn_table.proofs.level.child_paths.Given as goal

abbrev pub invariant-loop-child : goal.invariant-loop-child
invariant-loop-child l = ChildPaths l.level.paths.items (take l.child-index l.children) l.paths.items
