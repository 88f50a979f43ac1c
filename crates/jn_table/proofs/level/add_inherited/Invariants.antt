use Rattle.std.proofs.Common.{ℕ, List, take}
use Rattle.jn_table.specs.Gather.{Gains}
use Rattle.jn_table.specs.Groups.{IsGroups}
use Rattle.jn_table.specs.Level.{IsInheritedAt}
use Rattle.jn_table.proofs.level.add_inherited.Given as goal

abbrev pub invariant-loop-up : goal.invariant-loop-up
invariant-loop-up l = (keys : List (List ℕ)) → IsGroups keys l.groups
    → Gains (IsInheritedAt keys (take l.up-index l.direct) l.name) l.initial.all.items l.all.items
