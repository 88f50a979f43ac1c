-- What is known of a program whose headers pass.
use Rattle.std.specs.Prelude.{◌≡◌}
use Rattle.jn_base.specs.declared.tree.Program.{Program}
use Rattle.jn_base.specs.ResolveTypes.{mask_names}
use Rattle.jn_table.specs.declared.table.Table.{Table}
use Rattle.jn_table.specs.Tables.{IsFilled}
use Rattle.jn_names.specs.Members.{IsMembersOf}
use Rattle.jn_rules.specs.Plans.{Nothing}
use Rattle.jn_rules.specs.Verdict.{HeadersPass}
use Rattle.jn_share.specs.Groups.{AreGroups}
use Rattle.jn_share.specs.Slots.{AreSlots}
use Rattle.jn_header.specs.declared.judge.Headers.{Headers}

-- The universe of p is filled in the table, and these are p's least members, groups and slots, and the names of its masks.
pub record AreParts (p : Program) (t : Table) (h : Headers) : Type 0 where
  pub filled : IsFilled p t
  pub members : IsMembersOf p t h.members
  pub groups : AreGroups p t.known.items h.groups
  pub slots : AreSlots p t.known.items h.slots
  pub masks : h.masks.items ≡ mask_names p

-- the headers pass, and these are the parts
abbrev pub PartsPass : Program → Table → Headers → Type 0
PartsPass p t h = HeadersPass p × AreParts p t h

abbrev pub nothing : Headers → Nothing
nothing h = tt
