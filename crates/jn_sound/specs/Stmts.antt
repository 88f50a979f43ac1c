-- When the acts of a statement fit.
use Rattle.std.specs.Prelude.{◌≡◌, ◌≤◌, ◌⊎◌, List, ◌∷◌, [], length, true, Ok}
use Rattle.jn_base.specs.declared.tree.Program.{Program}
use Rattle.jn_base.specs.declared.tree.Expr.{Expr}
use Rattle.jn_base.specs.declared.tree.Stmt.{Stmt}
use Rattle.jn_base.specs.declared.names.Var.{Var}
use Rattle.jn_base.specs.Atoms.{Among}
use Rattle.jn_base.specs.Members.{MethodAt}
use Rattle.jn_sem.specs.Acts.{Todo, stmts_acts}
use Rattle.jn_laws.specs.LawsOfWritten.{Shallow}
use Rattle.jn_laws.specs.LawsOfSources.{WellFormed}
use Rattle.jn_body_laws.specs.BodyForms.{ExprFormed, IsCallForm, StmtFormed}
use Rattle.jn_rules.specs.Questions.{Gives}
use Rattle.jn_rules.specs.Stmts.{In, Before, stmt_types, stmts_type, stops, all_stop}
use Rattle.jn_sound.specs.KnownScopes.{here_in, StmtKnown, StandsIn}
use Rattle.jn_sound.specs.Fit.{Fits}
use Rattle.jn_sound.specs.Tree.{ExprFits, CallFits, ProgramKnown}

-- What is known of a body that stands in a program: its statements have the forms of the grammar, and expressions of
-- these forms fit.
pub record BodyKnown (p : Program) (b : In) : Type 0 where
  pub shallow : Shallow p
  pub well : WellFormed p
  pub method : MethodAt p b.class b.method.name.name b.method
  pub formed : (s : Stmt) → StandsIn b.method.body s → StmtFormed p s
  pub exprs : (vs : List Var) (e : Expr) → ExprFormed e → ExprFits p b (here_in b vs) e
  pub calls : (vs : List Var) (e : Expr) → ExprFormed e → IsCallForm e → CallFits p b (here_in b vs) e

-- Behind the statement the same is known; and where it stops, or what comes behind it fits, its acts and that fit.
pub record StmtGoes (p : Program) (b : In) (s : Stmt) (x y : Before) : Type 0 where
  pub known : StmtKnown p b y
  pub fits : (ss : List Stmt) (k : List Todo) → (stops s ≡ true) ⊎ Fits p b
      (stmts_acts (length y.vars) y.next ss k) y.vars y.scope []
      → Fits p b (stmts_acts (length x.vars) x.next (s ∷ ss) k) x.vars x.scope []

-- a statement of the body, where the paths of variables are below 256
abbrev pub StmtFits : Program → In → Stmt → Type 0
StmtFits p b s = (x y : Before) → StmtKnown p b x → y.next ≤ 256 → StandsIn b.method.body s
    → Gives p (stmt_types b s x) (Ok y) → StmtGoes p b s x y

abbrev pub EachFits : Program → In → List Stmt → Type 0
EachFits p b ss = (s : Stmt) → Among ss s → StmtFits p b s

-- the statements of a block, one after the other
abbrev pub InOrder : Program → In → List Stmt → Type 0
InOrder p b ss = ((s : Stmt) → Among ss s → StandsIn b.method.body s) → (x y : Before) → StmtKnown p b x → y.next ≤ 256
    → Gives p (stmts_type b ss x) (Ok y)
    → StmtKnown p b y × ((k : List Todo) → (all_stop ss ≡ true) ⊎ Fits p b k y.vars y.scope [] → Fits p b
    (stmts_acts (length x.vars) x.next ss k) x.vars x.scope [])

-- EACH STATEMENT THAT THE RULES ACCEPT FITS, in a body of a program within the limits.
abbrev pub StatementsFit : Type 0
StatementsFit = (p : Program) (b : In) → ProgramKnown p → MethodAt p b.class b.method.name.name b.method
    → ((s : Stmt) → StmtFits p b s) × ((ss : List Stmt) → InOrder p b ss)
