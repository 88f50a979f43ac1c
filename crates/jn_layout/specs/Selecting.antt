-- The selectors of declared bodies and fields.
use Rattle.std.specs.Prelude.{◌≡◌, ℕ, List, Contains, Bool, Some, slice_get, cond}
use Rattle.jn_base.specs.declared.tree.Name.{Name}
use Rattle.jn_base.specs.declared.tree.Program.{Program}
use Rattle.jn_base.specs.declared.types.Ty.{Ty}
use Rattle.jn_base.specs.Paths.{Path}
use Rattle.jn_table.specs.declared.class.ClassId.{ClassId}
use Rattle.jn_table.specs.declared.table.Table.{Table}
use Rattle.jn_table.specs.Tables.{IsFilled}
use Rattle.jn_names.specs.FieldTypes.{AtField, declared_fields}
use Rattle.jn_sem.specs.Sharing.{IsClass}
use Rattle.jn_sem.specs.Slots.{FieldType}
use Rattle.jn_sem.specs.Terms.{FieldTypeIs}
use Rattle.jn_sem.specs.Does.{Body}
use Rattle.jn_sem.specs.LawsOfFinding.{FoundOnceIn}
use Rattle.jn_share.specs.declared.slots.Slots.{Slots}
use Rattle.jn_share.specs.Slots.{AreSlots, SaysHangs}
use Rattle.jn_agree.specs.declared.selectors.MethodSel.{MethodSel}
use Rattle.jn_agree.specs.declared.selectors.FieldSel.{FieldSel}
use Rattle.jn_agree.specs.Rows.{FieldKind, bodies_of}
use Rattle.jn_layout.specs.declared.declared.BodyAt.{BodyAt}
use Rattle.jn_layout.specs.declared.declared.FieldAt.{FieldAt}
use Rattle.jn_layout.specs.Shapes.{shape_of}
use Rattle.jn_layout.specs.Lookups.{SelectsBody}

-- Exactly the selectors of these things, each once.
pub record Selects {A B : Type 0} (Q : A → B → Type 0) (things : List A) (sels : List B) : Type 0 where
  pub sound : (s : B) → Contains sels s → (x : A) × Contains things x × Q x s
  pub has : (x : A) → Contains things x → (s : B) × Contains sels s × Q x s
  pub once : (j k : ℕ) (s : B) → slice_get sels j ≡ Some s → slice_get sels k ≡ Some s → j ≡ k

abbrev pub IsSame : FieldSel → FieldSel → Type 0
IsSame x y = x ≡ y

-- the kind of the field in its class: 4 where its type hangs on `this`, otherwise as it is written
abbrev pub OwnKind : Slots → FieldAt → ℕ → Type 0
OwnKind s x kind =
    (id : ClassId) → x.class ≡ Some id → (told : Bool) × SaysHangs s id x.name told × (kind ≡ cond told 4 x.kind)

-- the selector has the name and the kind of the field
pub record SelectsOwn (s : Slots) (x : FieldAt) (sel : FieldSel) : Type 0 where
  pub name_is : sel.name ≡ x.name
  pub kind_is : OwnKind s x sel.kind

abbrev pub AreMethodSels : List BodyAt → List MethodSel → Type 0
AreMethodSels = Selects SelectsBody

abbrev pub AreFieldSels : Slots → List FieldAt → List FieldSel → Type 0
AreFieldSels s = Selects (SelectsOwn s)

-- What is asked of the parts: a table in which the universe is filled, and the slots. Of what the verdict grants: what
-- is looked for is found once, and only classes have fields.
pub record SelectorsAsked (p : Program) (t : Table) (s : Slots) : Type 0 where
  pub filled : IsFilled p t
  pub slots : AreSlots p t.known.items s
  pub once : FoundOnceIn p
  pub of_classes : (R : Path) (f : Name) (type : Ty) → FieldType p R f type → IsClass p R

-- Example: of the methods `int size()` of two classes and `int size(int x)` of one there are two selectors, of the name
-- size: with no kind and with the kind 1, both with the result 1.

-- No selector is of anything else: each of the methods is the name and the shape of a body, and each of the fields the
-- name of a declared field with the kind of its type.
pub record SelectorsOnly (p : Program) (methods : List MethodSel) (fields : List FieldSel) : Type 0 where
  pub of_body : (x : MethodSel) → Contains methods x
      → (b : Body) × Contains (bodies_of p) b × (x ≡ record { name = b.method.name.name; shape = shape_of b.method })
  pub of_field : (x : FieldSel) → Contains fields x
      → (g : AtField) × Contains (declared_fields p) g × (x.name ≡ g.field.name.name)
      × ((t : Ty) → FieldTypeIs p g.class x.name g.field.ty t → FieldType p g.class x.name t → FieldKind t x.kind)
