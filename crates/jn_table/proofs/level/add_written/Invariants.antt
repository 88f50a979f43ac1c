use Rattle.std.proofs.Common.{ℕ, List, take}
use Rattle.jn_table.specs.Gather.{Gains}
use Rattle.jn_table.specs.Groups.{IsGroups}
use Rattle.jn_table.specs.Level.{IsWrittenAt}
use Rattle.jn_table.proofs.level.add_written.Given as goal

abbrev pub invariant-loop-name : goal.invariant-loop-name
invariant-loop-name l = (keys : List (List ℕ)) → IsGroups keys l.groups
    → Gains (IsWrittenAt keys l.up (take l.name-index l.written)) l.initial.all.items l.all.items
