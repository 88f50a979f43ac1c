-- Slots: which views of an object have one slot for a field.
use Rattle.std.specs.Prelude.{◌≡◌, ◌↔◌, ℕ, suc, List, length, slice_get, Some, None, Contains, cond, nat_eq}
use Rattle.jn_reach.specs.Derived.{Derived}
use Rattle.jn_base.specs.declared.tree.Name.{Name}
use Rattle.jn_base.specs.declared.tree.Field.{Field}
use Rattle.jn_base.specs.declared.tree.Program.{Program}
use Rattle.jn_base.specs.declared.types.Ty.{Ty}
use Rattle.jn_base.specs.Paths.{Path}
use Rattle.jn_base.specs.Members.{FieldDecls, FieldAt, IsField}
use Rattle.jn_base.specs.ClassOrder.{IsFirst}
use Rattle.jn_sem.specs.Sets.{Views, InType}
use Rattle.jn_sem.specs.Values.{HasField}
use Rattle.jn_sem.specs.Sharing.{IsClass, Related, Counterpart, family_of, HangsOnThis}
use Rattle.jn_sem.specs.Terms.{FieldTypeIs}

-- `this` has the view V, and no other path has one
abbrev pub this_viewed : Path → Views
this_viewed V q = cond (nat_eq q 0) (Some V) None

-- the field f of V has the type t
pub record FieldType (p : Program) (V : Path) (f : Name) (t : Ty) : Type 0 where
  pub class : Path
  pub is_field : IsField p V f class
  pub field : Field
  pub at : FieldAt p class f field
  pub type : FieldTypeIs p class f field.ty t

-- V has the field f, and its type hangs on `this`
pub record FieldHangs (p : Program) (V : Path) (f : Name) : Type 0 where
  pub ty : Ty
  pub type : FieldType p V f ty
  pub hangs : HangsOnThis ty

-- the class U is in the type where `this` has the view V
pub record ClassAt (p : Program) (V : Path) (ty : Ty) (U : Path) : Type 0 where
  pub class : IsClass p U
  pub is_in : InType p (this_viewed V) ty U

-- W is the counterpart of U in the family of V, and is in the type where `this` has the view V
pub record MatchAt (p : Program) (V : Path) (ty : Ty) (U W : Path) : Type 0 where
  pub family : Name
  pub of_view : family_of V ≡ Some family
  pub counterpart : Counterpart p family U W
  pub is_in : InType p (this_viewed V) ty W

-- the class U is in the type at the view V, and has no counterpart that is in it at the view T
pub record Unmatched (p : Program) (V T : Path) (ty : Ty) : Type 0 where
  pub class : Path
  pub is_in : ClassAt p V ty class
  pub none : (W : Path) → MatchAt p T ty class W → ⊥

-- Two views with a field that they are compared by.
pub record Compared : Type 0 where
  pub one : Path
  pub other : Path
  pub field : Name

abbrev pub compared : Path → Path → Name → Compared
compared V T f = record { one = V; other = T; field = f }

-- related classes that both have the field
pub record BothHave (p : Program) (V T : Path) (f : Name) : Type 0 where
  pub related : Related p V T
  pub in_one : HasField p V f
  pub in_other : HasField p T f

-- Both have the field from the declaration at Q, and its type hangs on `this`.
pub record BothHang (p : Program) (V T : Path) (f : Name) (Q : Path) (ty : Ty) : Type 0 where
  pub both : BothHave p V T f
  pub at_one : FieldDecls p V f Q
  pub at_other : FieldDecls p T f Q
  pub field : Field
  pub at : FieldAt p Q f field
  pub type : FieldTypeIs p Q f field.ty ty
  pub hangs : HangsOnThis ty

-- g is a field of one of the two classes and not of the other
pub data IsApart (p : Program) (U W : Path) (g : Name) : Type 0 where
  only_one : HasField p U g → (HasField p W g → ⊥) → IsApart p U W g
  only_other : HasField p W g → (HasField p U g → ⊥) → IsApart p U W g

-- What makes two slots of a field by itself:
pub data MakesTwo (p : Program) (c : Compared) : Type 0 where
  -- it has different declarations at the two views; or
  declared_apart : (Q R : Path) → BothHave p c.one c.other c.field → FieldDecls p c.one c.field Q → FieldDecls p c.other c.field R
      → (Q ≡ R → ⊥) → MakesTwo p c
  -- its type hangs on `this`, and some class in it at one of the views has no counterpart that is in it at the other; or
  unmatched : (Q : Path) (ty : Ty) → BothHang p c.one c.other c.field Q ty → Unmatched p c.one c.other ty → MakesTwo p c
  unmatched_back : (Q : Path) (ty : Ty) → BothHang p c.one c.other c.field Q ty → Unmatched p c.other c.one ty → MakesTwo p c
  -- it has one, and some field is in only one of the two classes.
  fields_apart : (Q : Path) (ty : Ty) (U W : Path) (g : Name) → BothHang p c.one c.other c.field Q ty → ClassAt p c.one ty U
      → MatchAt p c.other ty U W → IsApart p U W g → MakesTwo p c

-- What makes two slots of a field by two slots of another one: its type hangs on `this`, some class U in it at one of the
-- views has a counterpart W in it at the other, and U and W have two slots for the other field.
pub record MakesTwoBy (p : Program) (by c : Compared) : Type 0 where
  pub declared : Path
  pub ty : Ty
  pub hangs : BothHang p c.one c.other c.field declared ty
  pub is_in : ClassAt p c.one ty by.one
  pub counterpart : MatchAt p c.other ty by.one by.other
  pub both : BothHave p by.one by.other by.field

-- Diff(V, T, f) is the least relation that holds where one of these does.
abbrev pub Diff : Program → Path → Path → Name → Type 0
Diff p V T f = Derived (MakesTwo p) (MakesTwoBy p) (compared V T f)

-- the views have one slot for the field
pub record OneSlot (p : Program) (V T : Path) (f : Name) : Type 0 where
  pub both : BothHave p V T f
  pub same : Diff p V T f → ⊥

-- A slot is a field, with the first class that has it in this slot.
pub record Slot : Type 0 where
  pub class : Path
  pub field : Name

-- Slot(V, f) is f with the first class, in class order, that is related to V, has f, and has one slot for it with V.
pub record IsSlot (p : Program) (V : Path) (f : Name) (s : Slot) : Type 0 where
  pub field : s.field ≡ f
  pub first : IsFirst p (λ W. OneSlot p W V f) s.class

-- s is a slot of the group of V
pub record SlotOfGroup (p : Program) (V : Path) (s : Slot) : Type 0 where
  pub view : Path
  pub related : Related p V view
  pub field : Name
  pub slot : IsSlot p view field s

-- Size(group) is 1 and its number of slots.
pub record IsSize (p : Program) (V : Path) (size : ℕ) : Type 0 where
  pub class : IsClass p V
  pub slots : List Slot
  pub exact : (s : Slot) → Contains slots s ↔ SlotOfGroup p V s
  pub once : (i j : ℕ) (s : Slot) → slice_get slots i ≡ Some s → slice_get slots j ≡ Some s → i ≡ j
  pub is : size ≡ suc (length slots)

-- Examples (worked out in `jn_sem_rows`): v of base.Lit and disp.Lit is one slot, tag of disp.Lit another, and the size is 3. Where an Exp of
-- disp has a field that an Exp of base hasn't, a field `Exp l` has two slots. A field `Lit next` of the class Lit has one.
