-- The names of a program.
use Rattle.std.specs.Prelude.{◌<◌, ℕ, List, length}
use Rattle.jn_base.specs.declared.tree.Name.{Name}
use Rattle.jn_base.specs.declared.tree.Field.{Field}
use Rattle.jn_base.specs.declared.tree.Method.{Method}
use Rattle.jn_base.specs.declared.tree.Program.{Program}
use Rattle.jn_base.specs.Paths.{Path}
use Rattle.jn_base.specs.ClassOrder.{HasDistinctNames}
use Rattle.jn_base.specs.Members.{MethodAt, FieldAt}
use Rattle.jn_base.specs.LawsOfTable.{NamesItsPaths}
use Rattle.jn_base.specs.Spelling.{SourceSpells}

-- Equal names have one number, and each name of a declaration is one of the program's.
pub record IsNamed (p : Program) : Type 0 where
  pub distinct : HasDistinctNames p
  pub paths : NamesItsPaths p
  pub methods : (R : Path) (m : Name) (x : Method) → MethodAt p R m x → m.0 < length p.names
  pub fields : (R : Path) (f : Name) (x : Field) → FieldAt p R f x → f.0 < length p.names

-- This is so of each program that a source spells.
abbrev pub SpelledIsNamed : Type 0
SpelledIsNamed = (p : Program) (bytes : List ℕ) → SourceSpells p bytes → IsNamed p
