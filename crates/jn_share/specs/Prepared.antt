-- What is read off the table and the field types before slots are looked for.
use Rattle.std.specs.Prelude.{◌≡◌, ◌<◌, ℕ, List, [], ◌∷◌, slice_get, Some}
use Rattle.std.specs.declared.vec.Vec.{Vec}
use Rattle.std.specs.declared.alloc.Global.{Global}
use Rattle.jn_reach.specs.Each.{Each}
use Rattle.jn_reach.specs.Graph.{HasEdge}
use Rattle.jn_base.specs.declared.tree.Name.{Name}
use Rattle.jn_base.specs.declared.tree.Program.{Program}
use Rattle.jn_base.specs.declared.path.Path.{Path as ShownPath}
use Rattle.jn_base.specs.Paths.{Path}
use Rattle.jn_base.specs.Members.{FieldDecls}
use Rattle.jn_table.specs.declared.class.Row.{Row}
use Rattle.jn_table.specs.declared.field_types.FieldTy.{FieldTy}
use Rattle.jn_table.specs.declared.field_types.FieldTypes.{FieldTypes}
use Rattle.jn_table.specs.declared.table.Table.{Table}
use Rattle.jn_table.specs.Rows.{IsNumber, IsRow}
use Rattle.jn_table.specs.Tables.{IsFilled}
use Rattle.jn_sem.specs.Sharing.{family_of}
use Rattle.jn_share.specs.Pairing.{IsAt}
use Rattle.jn_share.specs.Slots.{IsTyped, AreFieldTypes, SlotsAsked}
use Rattle.jn_share.specs.declared.groups.Groups.{Groups}
use Rattle.jn_share.specs.declared.prepared.Prepared.{Prepared}

-- ---- families

-- the number of the family of each path
abbrev pub FamilyAt : List ShownPath → List ℕ → ℕ → Path → Name → Type 0
FamilyAt known families k V X = (n : ℕ) × (slice_get families k ≡ Some n) × IsAt known n (X ∷ [])

abbrev pub FamiliesTo : List ShownPath → ℕ → List ℕ → Type 0
FamiliesTo known m families = (k : ℕ) (V : Path) (X : Name) → k < m → IsAt known k V → family_of V ≡ Some X → FamilyAt known families k V X

-- ---- declarations

-- the entry of that number is the declaration of the field f of V
pub record IsDecl (p : Program) (known : List ShownPath) (types : List FieldTy) (V : Path) (f : Name) (d : ℕ) : Type 0 where
  pub entry : FieldTy
  pub at : slice_get types d ≡ Some entry
  pub class : Path
  pub number : IsNumber known entry.class class
  pub named : entry.field ≡ f
  pub declares : FieldDecls p V f class
  pub type : IsTyped p class f entry.ty

-- for each field of the row the number of its declaration's entry
pub record AreDecls (p : Program) (known : List ShownPath) (types : List FieldTy) (V : Path) (fields : List Name) (decls : List ℕ) : Type 0 where
  pub each : Each (IsDecl p known types V) fields decls

-- ---- all together

pub record IsPrepared (p : Program) (t : Table) (types : List FieldTy) (all : Prepared) : Type 0 where
  pub families : (k : ℕ) (V : Path) (X : Name) → IsAt t.known.items k V → family_of V ≡ Some X → FamilyAt t.known.items all.families.items k V X
  pub classes : (k n : ℕ) → slice_get all.families.items k ≡ Some n → HasEdge all.classes.items n k
  pub decls : (k : ℕ) (V : Path) (row : Row) → IsAt t.known.items k V → IsRow p t.known.items V row
      → (decls : Vec ℕ Global) × (slice_get all.decls.items k ≡ Some decls) × AreDecls p t.known.items types V row.fields.items decls.items

-- of each program that asks for slots, and of which this is prepared, T holds
abbrev pub SaysAsked : Table → Groups → FieldTypes → Prepared → (Program → Type 0) → Type 0
SaysAsked t g types all T = (p : Program) → SlotsAsked p t g types → IsPrepared p t types.list.items all → T p

-- the numbers are those of the declarations of the fields of the number's class
abbrev pub DeclsRight : Table → List FieldTy → ℕ → List ℕ → Type 0
DeclsRight t types k decls = (p : Program) (V : Path) (row : Row) → IsFilled p t → AreFieldTypes p t.known.items types → IsAt t.known.items k V
    → IsRow p t.known.items V row → AreDecls p t.known.items types V row.fields.items decls

-- the first n rows are
abbrev pub DeclsTo : Table → List FieldTy → ℕ → List (Vec ℕ Global) → Type 0
DeclsTo t types n rows = (k : ℕ) → k < n → (row : Vec ℕ Global) × (slice_get rows k ≡ Some row) × DeclsRight t types k row.items
