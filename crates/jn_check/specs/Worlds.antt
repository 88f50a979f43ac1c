-- What a program that is accepted is known by, and what its check tells.
use Rattle.std.specs.Prelude.{◌≡◌, Result, Ok, Err}
use Rattle.jn_reach.specs.Each.{Each}
use Rattle.jn_base.specs.declared.tree.Program.{Program}
use Rattle.jn_table.specs.declared.table.Table.{Table}
use Rattle.jn_table.specs.Tables.{IsFilled}
use Rattle.jn_names.specs.Members.{IsMembersOf}
use Rattle.jn_share.specs.Groups.{AreGroups}
use Rattle.jn_share.specs.Slots.{AreSlots}
use Rattle.jn_agree.specs.Rows.{bodies_of}
use Rattle.jn_rules.specs.Plans.{Nothing}
use Rattle.jn_rules.specs.Resolved.{IsResolved}
use Rattle.jn_rules.specs.Verdict.{TreePasses, TreeRefuses}
use Rattle.jn_heads.specs.declared.fault.CheckFault.{CheckFault}
use Rattle.jn_heads.specs.declared.fault.CheckFault.TheVariants.{Refused, Memory}
use Rattle.jn_header.specs.declared.judge.Headers.{Headers}
use Rattle.jn_expr.specs.Envs.{Parts}
use Rattle.jn_check.specs.declared.world.World.{World}

-- The universe of p is filled in the table, and these are p's least members, groups and slots, and what its bodies are
-- known by, in source order.
pub record IsWorld (p : Program) (w : World) : Type 0 where
  pub filled : IsFilled p w.table
  pub members : IsMembersOf p w.table w.members
  pub groups : AreGroups p w.table.known.items w.groups
  pub slots : AreSlots p w.table.known.items w.slots
  pub bodies : Each (IsResolved p) (bodies_of p) w.bodies.items

-- The tree passes, and this is its world; or its refusal. Of want of memory nothing is said.
abbrev pub WorldTold : Program → Result World CheckFault → Type 0
WorldTold p (Ok w) = TreePasses p × IsWorld p w
WorldTold p (Err (Refused r)) = TreeRefuses p r
WorldTold p (Err Memory) = Unit {0}

abbrev pub nothing : World → Nothing
nothing w = tt

-- a body's check works with this table and these parts
pub record HasParts (t : Table) (h : Headers) (x : Parts) : Type 0 where
  pub table : x.table ≡ t
  pub members : x.members ≡ h.members
  pub groups : x.groups ≡ h.groups
  pub slots : x.slots ≡ h.slots
  pub masks : x.masks ≡ h.masks.items
