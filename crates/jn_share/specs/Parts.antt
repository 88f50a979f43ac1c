-- What is asked of two classes while they are told apart.
use Rattle.std.specs.Prelude.{◌≡◌, ◌↔◌, ℕ, List, [], ◌∷◌, Contains, slice_get, Some, Bool, IsTrue}
use Rattle.std.specs.declared.vec.Vec.{Vec}
use Rattle.std.specs.declared.alloc.Global.{Global}
use Rattle.jn_base.specs.declared.tree.Name.{Name}
use Rattle.jn_base.specs.declared.tree.Program.{Program}
use Rattle.jn_base.specs.declared.path.Path.{Path as ShownPath}
use Rattle.jn_base.specs.declared.types.Anchor.{Anchor}
use Rattle.jn_base.specs.declared.types.Anchor.TheVariants.{Up}
use Rattle.jn_base.specs.declared.types.Atom.{Atom as ShownAtom}
use Rattle.jn_base.specs.declared.types.Ty.{Ty}
use Rattle.jn_base.specs.Paths.{Path}
use Rattle.jn_table.specs.declared.class.ClassId.{ClassId}
use Rattle.jn_table.specs.declared.field_types.FieldTy.{FieldTy}
use Rattle.jn_table.specs.declared.field_types.FieldTypes.{FieldTypes}
use Rattle.jn_table.specs.declared.table.Table.{Table}
use Rattle.jn_table.specs.Rows.{IsNumber}
use Rattle.jn_table.specs.Tables.{IsFilled}
use Rattle.jn_sem.specs.Sharing.{IsClass, family_of, HangsOnThis}
use Rattle.jn_base.specs.Members.{FieldDecls}
use Rattle.jn_sem.specs.Sets.{InType}
use Rattle.jn_sem.specs.Slots.{this_viewed, ClassAt, MatchAt}
use Rattle.jn_share.specs.declared.groups.Groups.{Groups}
use Rattle.jn_share.specs.declared.prepared.Prepared.{Prepared}
use Rattle.jn_share.specs.Groups.{AreGroups}
use Rattle.jn_share.specs.Pairing.{IsAt}
use Rattle.jn_share.specs.Parting.{SamePart}
use Rattle.jn_share.specs.Prepared.{IsDecl, IsPrepared}
use Rattle.jn_share.specs.Slots.{IsTyped, SlotsAsked}

-- both numbers have one part
abbrev pub HavePart : List ℕ → ℕ → ℕ → Type 0
HavePart parts i j = (n : ℕ) × (slice_get parts i ≡ Some n) × (slice_get parts j ≡ Some n)

-- the class U is in the type at the view of the number
abbrev pub SaysIn : Table → ClassId → Ty → ℕ → Bool → Type 0
SaysIn t v ty u told = (p : Program) (V U : Path) → IsFilled p t → IsNumber t.known.items v V → IsAt t.known.items u U → IsTrue told ↔ ClassAt p V ty U

-- the path X is in the type at the view of the number, and both numbers have one part
abbrev pub SaysIs : Table → List ℕ → ℕ → ClassId → ClassId → Ty → Bool → Type 0
SaysIs t parts u x w ty told = (p : Program) (X T : Path) → IsFilled p t → IsNumber t.known.items x X → IsNumber t.known.items w T
    → IsTrue told ↔ (HavePart parts u x.0 × InType p (this_viewed T) ty X)

-- U has a counterpart that is in the type at T and has the same part
abbrev pub HasTwin : Program → List ShownPath → List ℕ → Path → Path → Ty → Type 0
HasTwin p known parts T U ty = (W : Path) × MatchAt p T ty U W × SamePart known parts U W

-- whether it has, where the family of T is known by its number
abbrev pub SaysTwin : Table → Groups → List ℕ → ℕ → ClassId → ClassId → Ty → Bool → Type 0
SaysTwin t g parts u w family ty told = (p : Program) (U T : Path) (Y : Name) → IsFilled p t → AreGroups p t.known.items g → IsAt t.known.items u U
    → IsNumber t.known.items w T → family_of T ≡ Some Y → IsNumber t.known.items family (Y ∷ []) → IsTrue told ↔ HasTwin p t.known.items parts T U ty

-- each class of those numbers that is in the type at V has one
abbrev pub CoversOf : Program → List ShownPath → List ℕ → List ℕ → Path → Path → Ty → Type 0
CoversOf p known parts among V T ty = (u : ℕ) (U : Path) → Contains among u → IsAt known u U → ClassAt p V ty U → HasTwin p known parts T U ty

-- told of each program, and of the paths of the numbers
abbrev pub SaysCovers : Table → Groups → ClassId → ClassId → ClassId → (Program → Path → Path → Type 0) → Type 0
SaysCovers t g v w family T = (p : Program) (V W : Path) (Y : Name) → IsFilled p t → AreGroups p t.known.items g → IsNumber t.known.items v V
    → IsNumber t.known.items w W → family_of W ≡ Some Y → IsNumber t.known.items family (Y ∷ []) → T p V W

abbrev pub SaysTwo : Table → Groups → FieldTypes → Prepared → ClassId → ClassId → (Program → Path → Path → Type 0) → Type 0
SaysTwo t g types all v w T = (p : Program) (V W : Path) → SlotsAsked p t g types → IsPrepared p t types.list.items all
    → IsNumber t.known.items v V → IsNumber t.known.items w W → IsClass p V → IsClass p W → T p V W

-- a field of V has the type, which hangs on `this`
pub record HangsIn (p : Program) (V : Path) (ty : Ty) : Type 0 where
  pub declared : Path
  pub field : Name
  pub declares : FieldDecls p V field declared
  pub type : IsTyped p declared field ty
  pub hangs : HangsOnThis ty

-- the two entries are the declarations of the field f of V and of W
abbrev pub DeclsOf : Program → Table → FieldTypes → Path → ℕ → Path → ℕ → Name → Type 0
DeclsOf p t types V dv W dw f = IsDecl p t.known.items types.list.items V f dv × IsDecl p t.known.items types.list.items W f dw

-- the anchor is one of `this`
abbrev pub IsThis : Anchor → Type 0
IsThis a = (k : ℕ) × (a ≡ Up 0 k)

abbrev pub OfThis : ShownAtom → Type 0
OfThis x = IsThis x.anchor

-- the entry is that of the field f of V, which is declared at Q
pub record EntryFor (p : Program) (known : List ShownPath) (V : Path) (f : Name) (x : FieldTy) (Q : Path) : Type 0 where
  pub number : IsNumber known x.class Q
  pub declares : FieldDecls p V f Q
  pub type : IsTyped p Q f x.ty

-- the row of the number, none where there is no such row
abbrev pub DeclsGiven : List (Vec ℕ Global) → ℕ → List ℕ → Type 0
DeclsGiven rows k decls = (row : Vec ℕ Global) → slice_get rows k ≡ Some row → decls ≡ row.items
