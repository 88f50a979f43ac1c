-- What classes share with one another, as a program whose members pass has it.
use Rattle.jn_base.specs.declared.tree.Program.{Program}
use Rattle.jn_base.specs.declared.path.Path.{Path as ShownPath}
use Rattle.std.specs.Prelude.{List}
use Rattle.jn_heads.specs.declared.fault.CheckFault.{CheckFault}
use Rattle.jn_heads.specs.declared.fault.CheckFault.TheVariants as check
use Rattle.jn_share.specs.declared.fault.ShareFault.{ShareFault}
use Rattle.jn_share.specs.declared.fault.ShareFault.TheVariants as share
use Rattle.jn_share.specs.Groups.{AreGroups}
use Rattle.jn_share.specs.Slots.{AreSlots}
use Rattle.jn_header.specs.declared.shared.Shared.{Shared}

-- these are the groups and the slots of p, whose universe is numbered so
pub record AreShared (p : Program) (known : List ShownPath) (s : Shared) : Type 0 where
  pub groups : AreGroups p known s.groups
  pub slots : AreSlots p known s.slots

-- the fault of what is shared, as one of a check
abbrev pub of_share : ShareFault → CheckFault
of_share (share.Refused r) = check.Refused r
of_share share.Memory = check.Memory
