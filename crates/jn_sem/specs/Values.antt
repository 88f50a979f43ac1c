-- Values, and the types that they are in.
use Rattle.std.specs.Prelude.{◌≡◌, ℕ, ℤ, Bool, List, Some, slice_get}
use Rattle.jn_base.specs.declared.tree.Name.{Name}
use Rattle.jn_base.specs.declared.tree.Program.{Program}
use Rattle.jn_base.specs.declared.types.Atom.{Atom as ShownAtom}
use Rattle.jn_base.specs.declared.types.Masks.{Masks}
use Rattle.jn_base.specs.declared.types.Ty.{Ty}
use Rattle.jn_base.specs.declared.types.Ty.TheVariants as ty
use Rattle.jn_base.specs.Paths.{Path}
use Rattle.jn_base.specs.Members.{FieldDecls}
use Rattle.jn_base.specs.Atoms.{HasMask}
use Rattle.jn_sem.specs.Sets.{Views, InType}

-- A value is a number, a truth value, null, or a reference, which is an object number and a view.
pub data Value : Type 0 where
  Number : ℤ → Value
  Truth : Bool → Value
  Null : Value
  Reference : (object : ℕ) (view : Path) → Value

-- R has a field f: some path in Sup(R) declares it
pub record HasField (p : Program) (R : Path) (f : Name) : Type 0 where
  pub at : Path
  pub declares : FieldDecls p R f at

-- Masks are the names of fields; `names` gives each mask number its name.
pub record Masked (names : List Name) (m : Masks) (f : Name) : Type 0 where
  pub number : ℕ
  pub has : HasMask m number
  pub name : slice_get names number ≡ Some f

-- Each field of the view V, but for the masked ones, has a value in its slot; `Filled f` says that f has one.
abbrev pub FieldsFilled : Program → List Name → (Name → Type 0) → Masks → Path → Type 0
FieldsFilled p names Filled m V = (f : Name) → HasField p V f → (Masked names m f → ⊥) → Filled f

-- A value is in a type where the type is int and it is a number; or the type is boolean and it is a truth value; or the
-- type is the null type and it is null; or the type is a class type and it is null, or a reference whose view is in the type
-- and each field of that view, but for the masked ones, has a value in its slot.
-- `Filled o V f` says that the slot of the field f at the view V of the object o has a value.
pub data ValueIn (p : Program) (names : List Name) (v : Views) (Filled : ℕ → Path → Name → Type 0) : Ty → Value → Type 0 where
  number : {z : ℤ} → ValueIn p names v Filled ty.Int (Number z)
  truth : {b : Bool} → ValueIn p names v Filled ty.Bool (Truth b)
  null : ValueIn p names v Filled ty.Null Null
  no_object : {xs : List ShownAtom} {m : Masks} → ValueIn p names v Filled (ty.Class xs m) Null
  object : {xs : List ShownAtom} {m : Masks} {o : ℕ} {V : Path} → InType p v (ty.Class xs m) V → FieldsFilled p names (Filled o V) m V
      → ValueIn p names v Filled (ty.Class xs m) (Reference o V)
