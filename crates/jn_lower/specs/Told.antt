-- What is told of a member of the program, and by what selector it is named.
use Rattle.std.specs.Prelude.{◌≡◌, ℕ, List, Contains, map, Option, Some, None, Bool, slice_get, cond}
use Rattle.jn_base.specs.declared.tree.Name.{Name}
use Rattle.jn_base.specs.declared.tree.Field.{Field}
use Rattle.jn_base.specs.declared.tree.Method.{Method}
use Rattle.jn_base.specs.declared.tree.Program.{Program}
use Rattle.jn_base.specs.declared.types.Ty.{Ty}
use Rattle.jn_base.specs.Paths.{Path}
use Rattle.jn_table.specs.declared.class.ClassId.{ClassId}
use Rattle.jn_table.specs.declared.table.Table.{Table}
use Rattle.jn_table.specs.Tables.{StandsFor}
use Rattle.jn_share.specs.declared.slots.Slots.{Slots}
use Rattle.jn_share.specs.Slots.{AreSlots, SaysHangs}
use Rattle.jn_sem.specs.Sharing.{IsClass}
use Rattle.jn_sem.specs.Slots.{FieldType}
use Rattle.jn_rules.specs.LawsOfPlans.{RepliesAreOne}
use Rattle.jn_agree.specs.Rows.{FieldKind, kind_of_type}
use Rattle.jn_agree.specs.declared.selectors.MethodSel.{MethodSel}
use Rattle.jn_agree.specs.declared.selectors.FieldSel.{FieldSel}
use Rattle.jn_lower.specs.declared.members.Callee.{Callee}
use Rattle.jn_lower.specs.declared.members.Getter.{Getter}
use Rattle.jn_lower.specs.Selecting.{method_sel, field_sel}
use Rattle.jn_lower.specs.Written.{written_kind, written_result, param_kind}

-- a thing that is so, none where there is none
abbrev pub Tells : {A : Type 0} → (A → Type 0) → Option A → Type 0
Tells Is (Some a) = Is a
Tells {A} Is None = (a : A) → Is a → ⊥

-- a method, a field, of this name
abbrev pub IsMethodNamed : List Method → Name → Method → Type 0
IsMethodNamed ms m x = Contains ms x × (x.name.name ≡ m)

abbrev pub IsFieldNamed : List Field → Name → Field → Type 0
IsFieldNamed fs f x = Contains fs x × (x.name.name ≡ f)

-- the method is called by that selector, which has its name and its written kinds
pub record IsCallee (names : List MethodSel) (f : Name) (m : Method) (x : Callee) : Type 0 where
  pub at : slice_get names x.selector ≡ Some (method_sel f x.params.items x.kind)
  pub params : x.params.items ≡ map param_kind m.params
  pub result : x.kind ≡ written_result m.result

-- and it gives nothing
pub record MakesBy (names : List MethodSel) (C : Name) (m : Method) (x : Callee) : Type 0 where
  pub callee : IsCallee names C m x
  pub nothing : x.kind ≡ 0

-- the kind of a field that the class R declares: 4 where its type hangs on `this`, otherwise as it is written
pub record OwnKind (t : Table) (s : Slots) (R : Path) (f : Name) (field : Field) (kind : ℕ) : Type 0 where
  pub id : ClassId
  pub number : StandsFor t id R
  pub told : Bool
  pub says : SaysHangs s id f told
  pub is : kind ≡ cond told 4 (written_kind field.ty)

-- the field is read and written by that selector, which has its name and its kind
pub record IsGetter (t : Table) (s : Slots) (names : List FieldSel) (R : Path) (f : Name) (field : Field) (x : Getter)
    : Type 0 where
  pub at : slice_get names x.selector ≡ Some (field_sel f x.kind)
  pub kind : OwnKind t s R f field x.kind

-- Where each question has one reply at most, the kind of a field is that of its type, which is as it is written but where
-- it hangs on `this`.
abbrev pub KindsOfFields : Type 0
KindsOfFields =
    (p : Program) (t : Table) (s : Slots) (R : Path) (f : Name) (field : Field) (kind : ℕ) (u : Ty)
    → AreSlots p t.known.items s → RepliesAreOne p → IsClass p R → FieldType p R f u
    → kind_of_type u ≡ written_kind field.ty → OwnKind t s R f field kind → FieldKind u kind

-- Example: the selector of `int m(A a, boolean b)` has the kinds 3 and 2, and the result 1.
