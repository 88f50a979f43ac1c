use Rattle.std.proofs.Common.{take}
use Rattle.jn_reach.specs.Each.{Each}
use Rattle.jn_link.specs.Groups.{IsBlankFor}
use Rattle.jn_link.proofs.groups.blanks.Given as goal

abbrev pub invariant-loop-k : goal.invariant-loop-k
invariant-loop-k l = Each (IsBlankFor l.s) (take l.k-index l.firsts) l.all.items
