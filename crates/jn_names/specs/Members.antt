-- What the least declaration of a method and the declaration of a field are, which classes declare a method, and which are
-- supers of each other, as `Members` tells them.
use Rattle.std.specs.Prelude.{◌≡◌, ◌↔◌, Bool, IsTrue, List, Contains, slice_get, Some}
use Rattle.jn_base.specs.declared.tree.Name.{Name}
use Rattle.jn_base.specs.declared.tree.Program.{Program}
use Rattle.jn_base.specs.declared.path.Path.{Path as ShownPath}
use Rattle.jn_base.specs.Paths.{Path}
use Rattle.jn_base.specs.Supers.{Sup}
use Rattle.jn_base.specs.Members.{Decls, Least as IsLeast, FieldDecls, IsField}
use Rattle.jn_base.specs.ClassOrder.{IsFirst}
use Rattle.jn_base.specs.TableRules.{IsCycle, NoneIs}
use Rattle.jn_table.specs.declared.class.ClassId.{ClassId}
use Rattle.jn_table.specs.declared.table.Table.{Table}
use Rattle.jn_table.specs.Exact.{MethodNamed, FieldNamed}
use Rattle.jn_table.specs.Rows.{IsNumber, AreClasses}
use Rattle.jn_table.specs.Tables.{IsFilled}
use Rattle.jn_names.specs.declared.member_row.MemberRow.{MemberRow}
use Rattle.jn_names.specs.declared.members.Members.{Members}
use Rattle.jn_names.specs.declared.members.Least.{Least}
use Rattle.jn_names.specs.declared.members.Least.TheVariants as least

-- the row has the supers of R, and the numbers of the names of the methods and fields that the declarations at R have themselves
pub record IsMemberRow (p : Program) (known : List ShownPath) (R : Path) (row : MemberRow) : Type 0 where
  pub sups : AreClasses p known (Sup p R) row.sups.items
  pub methods : (m : Name) → Contains row.methods.keys m.0 ↔ MethodNamed p R m
  pub fields : (f : Name) → Contains row.fields.keys f.0 ↔ FieldNamed p R f

pub record RowAt (p : Program) (known : List ShownPath) (rows : List MemberRow) (id : ClassId) (R : Path) : Type 0 where
  pub row : MemberRow
  pub at : slice_get rows id.0 ≡ Some row
  pub is : IsMemberRow p known R row

-- built from a table of p in which the universe is filled and has no cycle
pub record IsMembersOf (p : Program) (t : Table) (ms : Members) : Type 0 where
  pub filled : IsFilled p t
  pub acyclic : NoneIs (IsCycle p)
  pub rows : (id : ClassId) (R : Path) → IsNumber t.known.items id R → RowAt p t.known.items ms.rows.items id R

-- a declaration of the method m in Sup(R) below which no other stands
pub record IsLow (p : Program) (R : Path) (m : Name) (Q : Path) : Type 0 where
  pub declares : Decls p R m Q
  pub none_below : (S : Path) → Decls p R m S → Sup p S Q → S ≡ Q

-- the numbers of the first two paths, in class order, of which T holds
pub record AreFirstTwo (p : Program) (known : List ShownPath) (T : Path → Type 0) (a b : ClassId) : Type 0 where
  pub one : Path
  pub one_is : IsNumber known a one
  pub one_first : IsFirst p T one
  pub two : Path
  pub two_is : IsNumber known b two
  pub two_first : IsFirst p (λ S. T S × (S ≡ one → ⊥)) two

-- The method: `None` where no path of Sup(R) declares it; `One` its least declaration; `Many` where there are declarations
-- and no least one, with the first two below which no other stands.
abbrev pub LeastIs : Program → List ShownPath → Path → Name → Least → Type 0
LeastIs p known R m least.None = (Q : Path) → Decls p R m Q → ⊥
LeastIs p known R m (least.One a) = (Q : Path) × IsNumber known a Q × IsLeast p R m Q
LeastIs p known R m (least.Many a b) = AreFirstTwo p known (IsLow p R m) a b × ((Q : Path) → IsLeast p R m Q → ⊥)

-- The field: `None` where no path of Sup(R) declares it; `One` its declaration where it is alone; `Many` the first two.
abbrev pub FieldIs : Program → List ShownPath → Path → Name → Least → Type 0
FieldIs p known R f least.None = (Q : Path) → FieldDecls p R f Q → ⊥
FieldIs p known R f (least.One a) = (Q : Path) × IsNumber known a Q × IsField p R f Q
FieldIs p known R f (least.Many a b) = AreFirstTwo p known (FieldDecls p R f) a b

-- of whatever program and table the members are, this is the answer for the path of the number
abbrev pub SaysLeast : Members → ClassId → Name → Least → Type 0
SaysLeast ms id m told =
    (p : Program) (t : Table) (R : Path) → IsMembersOf p t ms → IsNumber t.known.items id R
    → LeastIs p t.known.items R m told

abbrev pub SaysField : Members → ClassId → Name → Least → Type 0
SaysField ms id f told =
    (p : Program) (t : Table) (R : Path) → IsMembersOf p t ms → IsNumber t.known.items id R
    → FieldIs p t.known.items R f told

-- the number of a path is among these where the declarations at the path have the method themselves
abbrev pub SaysDeclaring : Members → Name → List ClassId → Type 0
SaysDeclaring ms m ids =
    (p : Program) (t : Table) (id : ClassId) (R : Path) → IsMembersOf p t ms → IsNumber t.known.items id R
    → Contains ids id ↔ MethodNamed p R m

-- the number is that of a super of R
abbrev pub IsSuperNumber : Program → List ShownPath → Path → ClassId → Type 0
IsSuperNumber p known R other = (S : Path) × IsNumber known other S × Sup p R S

abbrev pub SaysSuper : Members → ClassId → ClassId → Bool → Type 0
SaysSuper ms id other told =
    (p : Program) (t : Table) (R : Path) → IsMembersOf p t ms → IsNumber t.known.items id R
    → IsTrue told ↔ IsSuperNumber p t.known.items R other
