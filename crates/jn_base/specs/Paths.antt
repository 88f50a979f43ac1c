-- Paths, and where declarations stand.
use Rattle.std.specs.Prelude.{◌≡◌, List, [], ◌∷◌, reverse, Contains}
use Rattle.jn_base.specs.declared.tree.Name.{Name}
use Rattle.jn_base.specs.declared.tree.Named.{Named}
use Rattle.jn_base.specs.declared.tree.Program.{Program}
use Rattle.jn_base.specs.declared.tree.Decl.{Decl}
use Rattle.jn_base.specs.declared.tree.Member.{Member, out-Member}
use Rattle.jn_base.specs.declared.tree.Member.TheOpen.{Member-F}
use Rattle.jn_base.specs.declared.tree.Field.{Field}
use Rattle.jn_base.specs.declared.tree.Method.{Method}
use Rattle.jn_base.specs.declared.path.Path.{Path as ShownPath}

-- A path as the definitions have it, the innermost name first: C ∷ P is P.C.
-- [] is the program itself, the namespace of the top-level names.
abbrev pub Path : Type 0
Path = List Name

-- the same path as the code and the refusals have it, the outermost name first
abbrev pub shown : Path → ShownPath
shown P = record { names = reverse P }

-- The nested declarations, the fields and the methods of a body, each in source order.
abbrev pub and_nested : Member-F Member Decl → List Decl → List Decl
and_nested (Member-F.Inner d) ds = d ∷ ds
and_nested (Member-F.Slot f) ds = ds
and_nested (Member-F.Body m) ds = ds

abbrev pub nested : List Member → List Decl
nested [] = []
nested (m ∷ ms) = and_nested (out-Member m) (nested ms)

abbrev pub and_field : Member-F Member Decl → List Field → List Field
and_field (Member-F.Inner d) fs = fs
and_field (Member-F.Slot f) fs = f ∷ fs
and_field (Member-F.Body m) fs = fs

abbrev pub fields : List Member → List Field
fields [] = []
fields (m ∷ ms) = and_field (out-Member m) (fields ms)

abbrev pub and_method : Member-F Member Decl → List Method → List Method
and_method (Member-F.Inner d) ms = ms
and_method (Member-F.Slot f) ms = ms
and_method (Member-F.Body m) ms = m ∷ ms

abbrev pub methods : List Member → List Method
methods [] = []
methods (m ∷ ms) = and_method (out-Member m) (methods ms)

-- d is one of the declarations that stand in the namespace P
abbrev pub StandsIn : Program → Path → Decl → Type 0
StandsIn p [] d = Contains p.decls d
StandsIn p (C ∷ P) d = (e : Decl) × StandsIn p P e × (e.name.name ≡ C) × Contains (nested e.members) d

-- d stands at the path R
abbrev pub StandsAt : Program → Path → Decl → Type 0
StandsAt p [] d = ⊥
StandsAt p (C ∷ P) d = StandsIn p P d × (d.name.name ≡ C)

-- a path is declared where a declaration stands at it
pub record Declared (p : Program) (R : Path) : Type 0 where
  pub decl : Decl
  pub stands : StandsAt p R decl

-- a declaration at R extends the name D
pub record Extends (p : Program) (R : Path) (D : Name) : Type 0 where
  pub decl : Decl
  pub stands : StandsAt p R decl
  pub named : Named
  pub extends : Contains decl.extends named
  pub name : named.name ≡ D
