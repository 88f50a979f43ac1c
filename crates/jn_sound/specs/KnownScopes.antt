-- What is known of the scope where an expression or a statement stands, and which statements stand in a body.
use Rattle.std.specs.Prelude.{◌≡◌, ◌<◌, ◌≤◌, ◌⊎◌, ℕ, List, length, false, ◌&&◌}
use Rattle.jn_base.specs.declared.tree.Place.{Place}
use Rattle.jn_base.specs.declared.tree.Program.{Program}
use Rattle.jn_base.specs.declared.tree.Expr.{Expr}
use Rattle.jn_base.specs.declared.tree.Stmt.{Stmt}
use Rattle.jn_base.specs.declared.tree.Stmt.TheVariants as stmt
use Rattle.jn_base.specs.declared.types.Ty.{Ty}
use Rattle.jn_base.specs.declared.names.Var.{Var}
use Rattle.jn_base.specs.Atoms.{Among, HasMask, MasksOf}
use Rattle.jn_base.specs.Resolve.{is_class}
use Rattle.jn_base.specs.Scopes.{Bind, Scope, Binds}
use Rattle.jn_laws.specs.LawsOfWritten.{IsWritten, SiteFits, scope_of}
use Rattle.jn_laws.specs.LawsOfScopes.{ScopesAlike}
use Rattle.jn_rules.specs.Questions.{masks_of}
use Rattle.jn_rules.specs.Exprs.{Here, site_here, bind, next_path}
use Rattle.jn_rules.specs.Stmts.{In, Before}
use Rattle.jn_rule_laws.specs.LawsOfForms.{ScopeFor, TypeKnown}

-- ---- where an expression stands

-- the declaration and the method of a body, with these variables in scope
abbrev pub here_in : In → List Var → Here
here_in b vs = record { class = b.class; method = b.method; vars = vs }

-- The scope is that of the variables, with any masks, and with fresh paths numbered from 256. A variable that is no
-- path has its declared type in it.
pub record ScopeKnown (p : Program) (h : Here) (s : Scope) : Type 0 where
  pub site : SiteFits p (site_here h)
  pub written : (v : Var) → Among h.vars v → IsWritten v.ty
  pub scope : ScopeFor (site_here h) s
  pub plain : (v : Var) → Among h.vars v → (v.fixed && is_class v.ty) ≡ false → Among s (bind v.path v.ty)
  pub numbered : (q : ℕ) → Binds s q → q < next_path s

-- ---- where a statement stands

-- the scope has `this` and these variables, and no fresh path
pub record Covers (vs : List Var) (s : Scope) : Type 0 where
  pub this : Binds s 0
  pub only : (q : ℕ) → Binds s q → (q ≡ 0) ⊎ ((x : Var) × Among vs x × (x.path ≡ q))
  pub all : (x : Var) → Among vs x → Binds s x.path

-- the masks of a type are a set of mask numbers
abbrev pub MasksFormed : Ty → Type 0
MasksFormed t = MasksOf (HasMask (masks_of t)) (masks_of t)

-- The scope before a statement has `this` and the variables, and no fresh path; each variable is older than the next
-- local, and the parameters are among them. The body's result fits the scope.
pub record StmtKnown (p : Program) (b : In) (x : Before) : Type 0 where
  pub scope : ScopeKnown p (here_in b x.vars) x.scope
  pub alike : ScopesAlike (scope_of (site_here (here_in b x.vars))) x.scope
  pub covers : Covers x.vars x.scope
  pub some : 0 < x.next
  pub older : (v : Var) → Among x.vars v → v.path < x.next
  pub params : length b.method.params ≤ length x.vars
  pub result : TypeKnown x.scope b.result
  pub masks : (c : Bind) → Among x.scope c → MasksFormed c.ty

-- ---- which statements stand in a body

-- a statement of these, or in a block of a statement that stands in them
pub data StandsIn (body : List Stmt) : Stmt → Type 0 where
  itself : {s : Stmt} → Among body s → StandsIn body s
  in_block : {s : Stmt} (ss : List Stmt) → StandsIn body (stmt.Block ss) → Among ss s → StandsIn body s
  in_first : {s : Stmt} (e : Expr) (one other : List Stmt) (at : Place) → StandsIn body (stmt.If e one other at)
      → Among one s → StandsIn body s
  in_second : {s : Stmt} (e : Expr) (one other : List Stmt) (at : Place) → StandsIn body (stmt.If e one other at)
      → Among other s → StandsIn body s
  in_loop : {s : Stmt} (e : Expr) (ss : List Stmt) (at : Place) → StandsIn body (stmt.While e ss at) → Among ss s
      → StandsIn body s

-- Example: in `if (c) { while (d) { print(1); } }` stand the `if`, the `while` and `print(1);`.
