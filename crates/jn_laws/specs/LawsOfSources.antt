-- What each program has that is read from a source: forms that the grammar gives, and numbers that the limits keep small.
use Rattle.std.specs.Prelude.{◌≡◌, ◌≤◌, ℕ, List, length, Some, Contains}
use Rattle.jn_base.specs.declared.tree.Name.{Name}
use Rattle.jn_base.specs.declared.tree.Field.{Field}
use Rattle.jn_base.specs.declared.tree.Param.{Param}
use Rattle.jn_base.specs.declared.tree.Method.{Method}
use Rattle.jn_base.specs.declared.tree.Constraint.{Constraint}
use Rattle.jn_base.specs.declared.tree.TypeTerm.{TypeTerm}
use Rattle.jn_base.specs.declared.tree.Program.{Program}
use Rattle.jn_base.specs.Paths.{Path}
use Rattle.jn_base.specs.Universe.{InUniverse}
use Rattle.jn_base.specs.Members.{FieldAt, MethodAt}
use Rattle.jn_base.specs.Atoms.{Among}
use Rattle.jn_base.specs.Spelling.{SourceSpells, IsTextOf}
use Rattle.jn_sem.specs.LawsOfSlots.{HeadNamed, BracketsNamed}
use Rattle.jn_laws.specs.LawsOfWritten.{TypeWellFormed}

-- The types in headers have terms, and names stand before each of their brackets.
pub record WellFormed (p : Program) : Type 0 where
  pub fields : (Q : Path) (f : Name) (x : Field) → FieldAt p Q f x → TypeWellFormed x.ty
  pub params : (Q : Path) (m : Name) (x : Method) (y : Param) → MethodAt p Q m x → Among x.params y → TypeWellFormed y.ty
  pub results : (Q : Path) (m : Name) (x : Method) (t : TypeTerm) → MethodAt p Q m x → x.result ≡ Some t → TypeWellFormed t
  pub constraints : (Q : Path) (m : Name) (x : Method) (c : Constraint) → MethodAt p Q m x → Contains x.sharing c
      → HeadNamed c.from.term.head × HeadNamed c.to.term.head

abbrev pub SourcesWellFormed : Type 0
SourcesWellFormed = (p : Program) (bytes : List ℕ) → SourceSpells p bytes → WellFormed p

-- names stand before each bracket of a field's type
abbrev pub SourcesBracketsNamed : Type 0
SourcesBracketsNamed = (p : Program) (bytes : List ℕ) → SourceSpells p bytes → BracketsNamed p

-- no path of the universe has more than 8 names, and no method more than 15 parameters
pub record KeepsLimits (p : Program) : Type 0 where
  pub depth : (R : Path) → InUniverse p R → length R ≤ 8
  pub params : (Q : Path) (m : Name) (x : Method) → MethodAt p Q m x → length x.params ≤ 15

-- where no limit refuses the source
abbrev pub TextsKeepLimits : Type 0
TextsKeepLimits = (p : Program) (bytes : List ℕ) → IsTextOf p bytes → KeepsLimits p

-- where no limit refuses the source, at most 65,535 names stand in it
abbrev pub TextsNameFew : Type 0
TextsNameFew = (p : Program) (bytes : List ℕ) → IsTextOf p bytes → length p.names ≤ 65535
