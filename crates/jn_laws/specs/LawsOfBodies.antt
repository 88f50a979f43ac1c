-- The forms and numbers of bodies, of each program that is read from a source.
use Rattle.std.specs.Prelude.{◌≤◌, ℕ, suc, List, [], ◌∷◌, ◌++◌, length, map, Contains}
use Rattle.jn_base.specs.declared.tree.Name.{Name}
use Rattle.jn_base.specs.declared.tree.Method.{Method}
use Rattle.jn_base.specs.declared.tree.Term.{Term}
use Rattle.jn_base.specs.declared.tree.TypeTerm.{TypeTerm}
use Rattle.jn_base.specs.declared.tree.Stmt.{Stmt, fold-Stmt}
use Rattle.jn_base.specs.declared.tree.Stmt.TheOpen.{Stmt-F}
use Rattle.jn_base.specs.declared.tree.Program.{Program}
use Rattle.jn_base.specs.Paths.{Path}
use Rattle.jn_base.specs.Members.{MethodAt}
use Rattle.jn_base.specs.Forms.{Termed, all_of, of_stmt}
use Rattle.jn_base.specs.Spelling.{SourceSpells, IsTextOf}
use Rattle.jn_sem.specs.Acts.{path_behind}
use Rattle.jn_sem.specs.LawsOfSlots.{HeadNamed}
use Rattle.jn_laws.specs.LawsOfWritten.{TypeWellFormed}

-- the types of the locals that a statement declares, in its blocks too
abbrev pub locals_step : Stmt-F (List TypeTerm) → List TypeTerm
locals_step (Stmt-F.Local fixed ty name e) = ty ∷ []
locals_step (Stmt-F.Block body) = all_of body
locals_step (Stmt-F.If e body other at) = all_of body ++ all_of other
locals_step (Stmt-F.While e body at) = all_of body
locals_step (Stmt-F.Assign name e) = []
locals_step (Stmt-F.Set of name e) = []
locals_step (Stmt-F.Do e) = []
locals_step (Stmt-F.Return e at) = []
locals_step (Stmt-F.Print e at) = []
locals_step (Stmt-F.PrintText text at) = []

unfoldable pub local_types : Stmt → List TypeTerm
local_types = fold-Stmt (List TypeTerm) locals_step

-- Names stand before each bracket in the statements, and the types of locals have terms.
pub record BodyFormed (body : List Stmt) : Type 0 where
  pub terms : (t : Term) → Contains (all_of (map of_stmt body)) (Termed t) → HeadNamed t.head
  pub locals : (t : TypeTerm) → Contains (all_of (map local_types body)) t → TypeWellFormed t

abbrev pub SourcesBodiesFormed : Type 0
SourcesBodiesFormed = (p : Program) (bytes : List ℕ) → SourceSpells p bytes
    → (Q : Path) (m : Name) (x : Method) → MethodAt p Q m x → BodyFormed x.body

-- Where no limit refuses the source, the paths of the parameters and locals of a body are below 216.
abbrev pub TextsHaveFewLocals : Type 0
TextsHaveFewLocals = (p : Program) (bytes : List ℕ) → IsTextOf p bytes
    → (Q : Path) (m : Name) (x : Method) → MethodAt p Q m x → path_behind x.body (suc (length x.params)) ≤ 216
