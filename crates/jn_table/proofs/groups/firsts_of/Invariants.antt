use Rattle.std.proofs.Common.{take}
use Rattle.jn_index.specs.Index.{keys_in}
use Rattle.jn_reach.specs.Each.{Each}
use Rattle.jn_table.specs.Groups.{IsFirstOf}
use Rattle.jn_table.proofs.groups.firsts_of.Given as goal

abbrev pub invariant-loop-place : goal.invariant-loop-place
invariant-loop-place l = Each (IsFirstOf (keys_in l.keys)) (take l.place l.keys) l.firsts.items
