-- How the classes of a group are told apart step by step: two stay together as long as nothing is found that makes two slots of one of
-- their fields.
use Rattle.std.specs.Prelude.{◌≡◌, ◌↔◌, ◌⊎◌, ℕ, List, slice_get, Some}
use Rattle.jn_base.specs.declared.tree.Name.{Name}
use Rattle.jn_base.specs.declared.tree.Program.{Program}
use Rattle.jn_base.specs.declared.path.Path.{Path as ShownPath}
use Rattle.jn_base.specs.declared.types.Ty.{Ty}
use Rattle.jn_base.specs.Paths.{Path}
use Rattle.jn_base.specs.Members.{FieldDecls}
use Rattle.jn_sem.specs.Values.{HasField}
use Rattle.jn_sem.specs.Sharing.{IsClass, Related, HangsOnThis}
use Rattle.jn_sem.specs.Slots.{ClassAt, MatchAt, BothHave, IsApart, Diff}
use Rattle.jn_share.specs.Pairing.{IsAt}
use Rattle.jn_share.specs.Slots.{IsTyped}

-- by a number for each class, the number of its part
pub record SamePart (known : List ShownPath) (parts : List ℕ) (U W : Path) : Type 0 where
  pub i : ℕ
  pub j : ℕ
  pub one : IsAt known i U
  pub other : IsAt known j W
  pub part : ℕ
  pub one_in : slice_get parts i ≡ Some part
  pub other_in : slice_get parts j ≡ Some part

-- ---- the type of a field at two views

-- each class in the type at V is together with a counterpart that is in it at T
abbrev pub Covers : Program → (Path → Path → Type 0) → Path → Path → Ty → Type 0
Covers p Same V T ty = (U : Path) → ClassAt p V ty U → (W : Path) × MatchAt p T ty U W × Same U W

-- one is together with none
pub record Uncovered (p : Program) (Same : Path → Path → Type 0) (V T : Path) (ty : Ty) : Type 0 where
  pub class : Path
  pub is_in : ClassAt p V ty class
  pub none : (W : Path) → MatchAt p T ty class W → Same class W → ⊥

-- ---- a field of two classes

-- it has one declaration, and its type, where it hangs on `this`, is covered both ways
pub record SameField (p : Program) (Same : Path → Path → Type 0) (V T : Path) (f : Name) : Type 0 where
  pub declared : Path
  pub at_one : FieldDecls p V f declared
  pub at_other : FieldDecls p T f declared
  pub forth : (ty : Ty) → IsTyped p declared f ty → HangsOnThis ty → Covers p Same V T ty
  pub back : (ty : Ty) → IsTyped p declared f ty → HangsOnThis ty → Covers p Same T V ty

-- it hasn't
pub data OtherField (p : Program) (Same : Path → Path → Type 0) (V T : Path) (f : Name) : Type 0 where
  two_places : (Q R : Path) → FieldDecls p V f Q → FieldDecls p T f R → (Q ≡ R → ⊥) → OtherField p Same V T f
  not_covered : (Q : Path) (ty : Ty) → FieldDecls p V f Q → FieldDecls p T f Q → IsTyped p Q f ty → HangsOnThis ty
      → Uncovered p Same V T ty → OtherField p Same V T f
  not_covered_back : (Q : Path) (ty : Ty) → FieldDecls p V f Q → FieldDecls p T f Q → IsTyped p Q f ty → HangsOnThis ty
      → Uncovered p Same T V ty → OtherField p Same V T f

-- ---- two classes

-- they have the same fields, and each of these is the same
pub record Alike (p : Program) (Same : Path → Path → Type 0) (U W : Path) : Type 0 where
  pub fields : (f : Name) → HasField p U f ↔ HasField p W f
  pub each : (f : Name) → HasField p U f → SameField p Same U W f

-- something tells them apart: there surely is a field of one that the other hasn't, or one of their fields isn't one
pub data NotAlike (p : Program) (Same : Path → Path → Type 0) (U W : Path) : Type 0 where
  by_apart : (((f : Name) → IsApart p U W f → ⊥) → ⊥) → NotAlike p Same U W
  by_field : (f : Name) → OtherField p Same U W f → NotAlike p Same U W

-- related classes with the same fields, none of which is Diff between them: nothing may tell them apart
pub record OneClass (p : Program) (U W : Path) : Type 0 where
  pub related : Related p U W
  pub no_apart : (f : Name) → IsApart p U W f → ⊥
  pub no_diff : (f : Name) → BothHave p U W f → Diff p U W f → ⊥

-- ---- the steps

-- classes that nothing may tell apart are together
abbrev pub KeepsOne : Program → (Path → Path → Type 0) → Type 0
KeepsOne p Same = (U W : Path) → OneClass p U W → Same U W

-- together are only a class and itself, and classes that are alike
abbrev pub IsStable : Program → (Path → Path → Type 0) → Type 0
IsStable p Same = (U W : Path) → IsClass p U → IsClass p W → Same U W → (U ≡ W) ⊎ Alike p Same U W
