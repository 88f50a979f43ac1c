use Rattle.std.proofs.Common.{◌≡◌, drop}
use Rattle.jn_link.specs.Groups.{painted}
use Rattle.jn_link.proofs.groups.paint.Given as goal

abbrev pub invariant-loop-e : goal.invariant-loop-e
invariant-loop-e l = painted l.kinds (drop l.e-index l.entries) l.group.slots
    ≡ painted l.kinds l.entries l.initial.group.slots
