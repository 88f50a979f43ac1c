-- The declarations of a tree as a list of entries.
use Rattle.std.specs.Prelude.{◌≡◌, List, [], ◌∷◌, ◌++◌, map, Contains}
use Rattle.jn_base.specs.declared.tree.Name.{Name}
use Rattle.jn_base.specs.declared.tree.Named.{Named}
use Rattle.jn_base.specs.declared.tree.Method.{Method}
use Rattle.jn_base.specs.declared.tree.Field.{Field}
use Rattle.jn_base.specs.declared.tree.Decl.{Decl}
use Rattle.jn_base.specs.declared.tree.Program.{Program}
use Rattle.jn_base.specs.Paths.{Path, nested, methods, fields}
use Rattle.jn_table.specs.declared.entry.Entry.{Entry}
use Rattle.jn_table.specs.declared.entry.Names.{Names}

abbrev pub named_name : Named → Name
named_name n = n.name

abbrev pub method_name : Method → Name
method_name m = m.name.name

abbrev pub field_name : Field → Name
field_name f = f.name.name

-- d stands in the namespace P, where the declarations ds stand in the namespace N
pub data Under : List Decl → Path → Path → Decl → Type 0 where
  at_top : {ds : List Decl} {N : Path} {d : Decl} → Contains ds d → Under ds N N d
  deeper : {ds : List Decl} {N P : Path} {e d : Decl} → Contains ds e
      → Under (nested e.members) (e.name.name ∷ N) P d → Under ds N P d

-- the names are those of the declaration d
pub record NamesAre (names : Names) (d : Decl) : Type 0 where
  pub extends : names.extends ≡ map named_name d.extends
  pub methods_are : names.methods ≡ map method_name (methods d.members)
  pub fields_are : names.fields ≡ map field_name (fields d.members)

-- the entry is that of the declaration d, which stands in the namespace P
pub record EntryIs (entry : Entry) (P : Path) (d : Decl) : Type 0 where
  pub namespace : entry.namespace ≡ P
  pub name : entry.name ≡ d.name.name
  pub path_is : entry.path ≡ d.name.name ∷ P
  pub kind : entry.kind ≡ d.kind
  pub extends : entry.extends ≡ map named_name d.extends
  pub methods_are : entry.methods ≡ map method_name (methods d.members)
  pub fields_are : entry.fields ≡ map field_name (fields d.members)

-- the entries are those of the declarations under ds
pub record FlatOf (ds : List Decl) (N : Path) (entries : List Entry) : Type 0 where
  pub sound : (e : Entry) → Contains entries e → (P : Path) × (d : Decl) × Under ds N P d × EntryIs e P d
  pub complete : (P : Path) (d : Decl) → Under ds N P d → (e : Entry) × Contains entries e × EntryIs e P d

-- behind the entries that were there stand those of the declarations under ds
pub record AddsFlat (ds : List Decl) (N : Path) (before after : List Entry) : Type 0 where
  pub added : List Entry
  pub is : after ≡ before ++ added
  pub flat : FlatOf ds N added

abbrev pub IsFlattened : Program → List Entry → Type 0
IsFlattened p entries = FlatOf p.decls [] entries
