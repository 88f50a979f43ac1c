-- What the rows of a program are made of.
use Rattle.std.specs.Prelude.{◌≡◌, ◌<◌, ◌≤◌, ℕ, map, Some, slice_get, length}
use Rattle.jn_base.specs.declared.tree.Name.{Name}
use Rattle.jn_base.specs.declared.tree.Field.{Field}
use Rattle.jn_base.specs.declared.tree.Program.{Program}
use Rattle.jn_base.specs.declared.types.Ty.{Ty}
use Rattle.jn_base.specs.Paths.{Path, shown}
use Rattle.jn_base.specs.Members.{FieldAt}
use Rattle.jn_base.specs.LawsOfTable.{NamesItsPaths}
use Rattle.jn_table.specs.declared.table.Table.{Table}
use Rattle.jn_table.specs.Tables.{IsFilled}
use Rattle.jn_names.specs.declared.members.Members.{Members}
use Rattle.jn_names.specs.Members.{IsMembersOf}
use Rattle.jn_code.specs.declared.image.Shape.{Shape}
use Rattle.jn_sem.specs.Sharing.{IsClass}
use Rattle.jn_sem.specs.Slots.{FieldType}
use Rattle.jn_sem.specs.Terms.{FieldTypeIs}
use Rattle.jn_sem.specs.Does.{Body, IsBody}
use Rattle.jn_sem.specs.LawsOfFinding.{FoundOnceIn}
use Rattle.jn_share.specs.declared.groups.Groups.{Groups}
use Rattle.jn_share.specs.declared.slots.Slots.{Slots}
use Rattle.jn_share.specs.Groups.{AreGroups}
use Rattle.jn_share.specs.Slots.{AreSlots}
use Rattle.jn_agree.specs.declared.selectors.Selectors.{Selectors}
use Rattle.jn_agree.specs.Naming.{Naming}
use Rattle.jn_agree.specs.Rows.{FirstsAre, SelectorsAre, HasShape, bodies_of}

-- The parts are those of p: a table in which the universe is filled, members, groups and slots.
pub record PartsAre (p : Program) (t : Table) (m : Members) (g : Groups) (s : Slots) : Type 0 where
  pub filled : IsFilled p t
  pub members : IsMembersOf p t m
  pub groups : AreGroups p t.known.items g
  pub slots : AreSlots p t.known.items s

-- What the numbers stand for: classes as the table has them, groups by their first classes, the selectors, and the
-- bodies in source order.
pub record IsNaming (p : Program) (t : Table) (names : Selectors) (n : Naming) : Type 0 where
  pub classes : t.known.items ≡ map shown n.classes
  pub groups : FirstsAre p n.groups
  pub methods : n.methods ≡ names.methods
  pub fields : n.fields ≡ names.fields
  pub bodies : n.bodies ≡ bodies_of p

-- What the verdict grants: each body has a shape and each declared field a type, what is looked for is found once, only
-- classes have fields, and each body stands once in the source.
pub record Typed (p : Program) : Type 0 where
  pub shaped : (R : Path) (m : Name) (b : Body) → IsBody p R m b → (s : Shape) × HasShape p b s
  pub typed : (Q : Path) (f : Name) (field : Field) → FieldAt p Q f field → (t : Ty) × FieldTypeIs p Q f field.ty t
  pub once : FoundOnceIn p
  pub of_classes : (R : Path) (f : Name) (t : Ty) → FieldType p R f t → IsClass p R
  pub one_place : (j k : ℕ) (b : Body) → slice_get (bodies_of p) j ≡ Some b → slice_get (bodies_of p) k ≡ Some b → j ≡ k
  pub named : NamesItsPaths p

-- counts that fit into their bytes
pub record AreFew (p : Program) (n : Naming) : Type 0 where
  pub names : length p.names ≤ 65535
  pub groups : length n.groups < 65535
  pub methods : length n.methods < 4294967296
  pub fields : length n.fields < 4294967296
  pub bodies : length n.bodies < 4294967296

-- all of it
pub record RowsAsked (p : Program) (t : Table) (m : Members) (g : Groups) (s : Slots) (names : Selectors)
    (n : Naming) : Type 0 where
  pub parts : PartsAre p t m g s
  pub naming : IsNaming p t names n
  pub selectors : SelectorsAre p n.methods n.fields
  pub typed : Typed p
  pub few : AreFew p n
