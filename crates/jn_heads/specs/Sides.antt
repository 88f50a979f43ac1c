-- The sides of constraints.
use Rattle.std.specs.Prelude.{◌≡◌, Result, Ok, Err}
use Rattle.jn_base.specs.declared.tree.Name.{Name}
use Rattle.jn_base.specs.declared.tree.Constraint.{Constraint}
use Rattle.jn_base.specs.declared.tree.ViewTerm.{ViewTerm}
use Rattle.jn_base.specs.declared.tree.Program.{Program}
use Rattle.jn_base.specs.declared.types.Ty.{Ty}
use Rattle.jn_base.specs.declared.names.Role.{Role}
use Rattle.jn_base.specs.Paths.{Path}
use Rattle.jn_rules.specs.Plans.{Target, target_type, Pledge as TypedPledge}
use Rattle.jn_rules.specs.Questions.{header_site, TargetIs, ConstraintGives}
use Rattle.jn_heads.specs.declared.fault.CheckFault.{CheckFault}
use Rattle.jn_heads.specs.declared.fault.CheckFault.TheVariants.{Refused, Memory}
use Rattle.jn_heads.specs.declared.sides.Pledge.{Pledge}

-- the type is that of a target for which the side stands
pub record IsSide (p : Program) (Q : Path) (m : Name) (r : Role) (v : ViewTerm) (t : Ty) : Type 0 where
  pub target : Target
  pub resolved : TargetIs p r (header_site Q m) v (Ok target)
  pub is : t ≡ target_type target

abbrev pub SideTold : Program → Path → Name → Role → ViewTerm → Result Ty CheckFault → Type 0
SideTold p Q m r v (Ok t) = IsSide p Q m r v t
SideTold p Q m r v (Err (Refused e)) = TargetIs p r (header_site Q m) v (Err e)
SideTold p Q m r v (Err Memory) = Unit {0}

-- the pledge has the types of the sides for which the constraint stands
pub record IsPledge (p : Program) (Q : Path) (m : Name) (c : Constraint) (k : Pledge) : Type 0 where
  pub pledge : TypedPledge
  pub resolved : ConstraintGives p (header_site Q m) c (Ok pledge)
  pub from : k.from ≡ target_type pledge.from
  pub to : k.to ≡ target_type pledge.to

abbrev pub PledgeTold : Program → Path → Name → Constraint → Result Pledge CheckFault → Type 0
PledgeTold p Q m c (Ok k) = IsPledge p Q m c k
PledgeTold p Q m c (Err (Refused e)) = ConstraintGives p (header_site Q m) c (Err e)
PledgeTold p Q m c (Err Memory) = Unit {0}
