-- What is looked for by name: a body, a field, a selector.
use Rattle.std.specs.Prelude.{◌≡◌, ◌<◌, ℕ, List, Option, Some, None, slice_get, length}
use Rattle.jn_reach.specs.Each.{Each}
use Rattle.jn_base.specs.declared.tree.Name.{Name}
use Rattle.jn_base.specs.declared.tree.Program.{Program}
use Rattle.jn_base.specs.Paths.{Path}
use Rattle.jn_table.specs.declared.class.ClassId.{ClassId}
use Rattle.jn_table.specs.declared.table.Table.{Table}
use Rattle.jn_table.specs.Tables.{IsFilled}
use Rattle.jn_names.specs.declared.members.Members.{Members}
use Rattle.jn_names.specs.Members.{IsMembersOf}
use Rattle.jn_names.specs.FieldTypes.{declared_fields}
use Rattle.jn_share.specs.declared.slots.Slots.{Slots}
use Rattle.jn_share.specs.Slots.{AreSlots, HasSlot}
use Rattle.jn_agree.specs.declared.selectors.MethodSel.{MethodSel}
use Rattle.jn_agree.specs.declared.selectors.FieldSel.{FieldSel}
use Rattle.jn_agree.specs.Naming.{Naming}
use Rattle.jn_agree.specs.Rows.{SelectorsAre, HasEntry, HasFieldEntry, bodies_of}
use Rattle.jn_layout.specs.declared.pairs.Pair.{Pair}
use Rattle.jn_layout.specs.declared.declared.BodyAt.{BodyAt}
use Rattle.jn_layout.specs.declared.declared.FieldAt.{FieldAt}
use Rattle.jn_layout.specs.Parts.{AreClassesOf}
use Rattle.jn_layout.specs.Shapes.{IsBodyAt, IsFieldAt}
use Rattle.jn_layout.specs.Asked.{Typed, AreFew}

-- one of which T holds stands at the place
pub record FoundAt {A : Type 0} (T : A → Type 0) (xs : List A) (k : ℕ) : Type 0 where
  pub thing : A
  pub at : slice_get xs k ≡ Some thing
  pub is : T thing

-- T holds of none of the first n
abbrev pub NoneTo : {A : Type 0} → (A → Type 0) → List A → ℕ → Type 0
NoneTo {A} T xs n = (k : ℕ) (x : A) → k < n → slice_get xs k ≡ Some x → T x → ⊥

pub record IsBodyOf (class : ClassId) (name : Name) (x : BodyAt) : Type 0 where
  pub class_is : x.class ≡ Some class
  pub name_is : x.name ≡ name

pub record IsFieldOf (class : ClassId) (name : Name) (x : FieldAt) : Type 0 where
  pub class_is : x.class ≡ Some class
  pub name_is : x.name ≡ name

-- the selector has the name and the shape of the body
pub record SelectsBody (x : BodyAt) (sel : MethodSel) : Type 0 where
  pub name : sel.name ≡ x.name
  pub params : sel.shape.params ≡ x.params.items
  pub result : sel.shape.result ≡ x.result

pub record SelectsField (name : Name) (kind : ℕ) (sel : FieldSel) : Type 0 where
  pub name_is : sel.name ≡ name
  pub kind_is : sel.kind ≡ kind

-- ---- the pairs of a row

-- what the codes of methods are found by
pub record MethodsAsked (p : Program) (t : Table) (m : Members) (names : List MethodSel) (bodies : List BodyAt)
    (n : Naming) : Type 0 where
  pub filled : IsFilled p t
  pub members : IsMembersOf p t m
  pub classes : AreClassesOf t n
  pub methods : n.methods ≡ names
  pub numbered : n.bodies ≡ bodies_of p
  pub bodies_are : Each (IsBodyAt t) (bodies_of p) bodies
  pub selectors : SelectorsAre p n.methods n.fields
  pub typed : Typed p
  pub few : AreFew p n

-- the pair has a selector of the name, and the code that R runs for it
pub record MethodPair (p : Program) (n : Naming) (R : Path) (name : Name) (x : Pair) : Type 0 where
  pub entry : HasEntry p n R x.key x.value
  pub named : entry.sel.name ≡ name

-- what the slots of fields are found by
pub record FieldsAsked (p : Program) (t : Table) (m : Members) (s : Slots) (names : List FieldSel)
    (fields : List FieldAt) (n : Naming) : Type 0 where
  pub filled : IsFilled p t
  pub members : IsMembersOf p t m
  pub slots : AreSlots p t.known.items s
  pub classes : AreClassesOf t n
  pub selectors_are : n.fields ≡ names
  pub fields_are : Each (IsFieldAt t) (declared_fields p) fields
  pub selectors : SelectorsAre p n.methods n.fields
  pub typed : Typed p
  pub few : AreFew p n

-- the pair has the selector of a field of R, and the slot of the field at the number of R
pub record FieldPlace (p : Program) (n : Naming) (s : Slots) (id : ClassId) (R : Path) (key value : ℕ) : Type 0 where
  pub entry : HasFieldEntry p n R key
  pub slot : HasSlot s id entry.sel.name value

pub record FieldPair (p : Program) (n : Naming) (s : Slots) (id : ClassId) (R : Path) (name : Name)
    (x : Pair) : Type 0 where
  pub place : FieldPlace p n s id R x.key x.value
  pub named : place.entry.sel.name ≡ name

-- ---- one place

-- the pair has a selector of the body at the place
abbrev pub SelectorPair : List MethodSel → BodyAt → ℕ → Option Pair → Type 0
SelectorPair names x place None = NoneTo (SelectsBody x) names (length names)
SelectorPair names x place (Some e) =
    (sel : ℕ) × FoundAt (SelectsBody x) names sel × (sel < 4294967296 → e.key ≡ sel)
    × (place < 4294967296 → e.value ≡ place)

abbrev pub MethodPairOf : List BodyAt → List MethodSel → ℕ → Option Pair → Type 0
MethodPairOf bodies names place told = (x : BodyAt) → slice_get bodies place ≡ Some x → SelectorPair names x place told

-- the pair has a selector of the name and the kind, and the slot
abbrev pub SlotPair : List FieldSel → Name → (kind slot : ℕ) → Option Pair → Type 0
SlotPair names name kind slot None = NoneTo (SelectsField name kind) names (length names)
SlotPair names name kind slot (Some e) =
    (sel : ℕ) × FoundAt (SelectsField name kind) names sel × (sel < 4294967296 → e.key ≡ sel) × (e.value ≡ slot)

abbrev pub FieldPairOf : List FieldSel → Name → (kind : ℕ) → Option ℕ → Option Pair → Type 0
FieldPairOf names name kind None told = told ≡ None
FieldPairOf names name kind (Some slot) told = SlotPair names name kind slot told
