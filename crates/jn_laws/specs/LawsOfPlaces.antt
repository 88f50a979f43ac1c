-- What each program within the limits has: one that some source spells but for its places.
use Rattle.std.specs.Prelude.{◌≤◌, suc, length}
use Rattle.jn_base.specs.declared.tree.Name.{Name}
use Rattle.jn_base.specs.declared.tree.Method.{Method}
use Rattle.jn_base.specs.declared.tree.Program.{Program}
use Rattle.jn_base.specs.Paths.{Path}
use Rattle.jn_base.specs.Members.{MethodAt}
use Rattle.jn_sem.specs.Acts.{path_behind}
use Rattle.jn_laws.specs.LawsOfBodies.{BodyFormed}
use Rattle.jn_base.specs.ProgramNames.{IsNamed}
use Rattle.jn_base.specs.WithinLimits.{IsWithinLimits}
use Rattle.jn_sem.specs.LawsOfSlots.{BracketsNamed}
use Rattle.jn_laws.specs.LawsOfSources.{WellFormed, KeepsLimits}
use Rattle.jn_laws.specs.LawsOfWritten.{Shallow}

pub record WithinOf (p : Program) : Type 0 where
  -- its names are its own, and distinct
  pub named : IsNamed p
  -- the types in its headers have terms, with names before each bracket
  pub formed : WellFormed p
  pub brackets : BracketsNamed p
  -- paths have at most 8 names, and methods at most 15 parameters
  pub limits : KeepsLimits p
  pub shallow : Shallow p
  -- in bodies names stand before each bracket, types of locals have terms, and paths are below 216
  pub bodies : (Q : Path) (m : Name) (x : Method) → MethodAt p Q m x → BodyFormed x.body
  pub locals : (Q : Path) (m : Name) (x : Method) → MethodAt p Q m x → path_behind x.body (suc (length x.params)) ≤ 216

abbrev pub ProgramsWithinLimits : Type 0
ProgramsWithinLimits = (p : Program) → IsWithinLimits p → WithinOf p
