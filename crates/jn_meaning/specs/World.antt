-- What the runner stands on.
use Rattle.std.specs.Prelude.{◌≡◌, List}
use Rattle.jn_base.specs.declared.tree.Name.{Name}
use Rattle.jn_base.specs.declared.tree.Program.{Program}
use Rattle.jn_base.specs.ResolveTypes.{mask_names}
use Rattle.jn_base.specs.TableRules.{DeclarationsPass}
use Rattle.jn_table.specs.declared.table.Table.{Table}
use Rattle.jn_table.specs.Tables.{IsFilled}
use Rattle.jn_names.specs.declared.members.Members.{Members}
use Rattle.jn_names.specs.Members.{IsMembersOf}
use Rattle.jn_share.specs.declared.groups.Groups.{Groups}
use Rattle.jn_share.specs.declared.slots.Slots.{Slots}
use Rattle.jn_share.specs.Groups.{AreGroups}
use Rattle.jn_share.specs.Slots.{AreSlots}
use Rattle.jn_sem.specs.LawsOfSlots.{FieldsPass}
use Rattle.jn_meaning.specs.declared.world.World.{World}

-- A table of p in which the universe is filled, with the masks, members, groups and slots of p. The declarations of p pass, no
-- class has a field with two declarations, and field types fit their classes.
pub record AreParts (p : Program) (t : Table) (names : List Name) (ms : Members) (g : Groups) (s : Slots) : Type 0 where
  pub filled : IsFilled p t
  pub declarations : DeclarationsPass p
  pub passes : FieldsPass p
  pub masks : names ≡ mask_names p
  pub members : IsMembersOf p t ms
  pub groups : AreGroups p t.known.items g
  pub slots : AreSlots p t.known.items s

abbrev pub Stands : World → Table → Type 0
Stands w t = AreParts w.program.now t w.masks.now w.members.now w.groups.now w.slots.now
