-- Where a statement stands: the variables in scope, their types and their present masks; and what a statement leaves.
use Rattle.std.specs.Prelude.{◌≡◌, ◌<◌, ◌≤◌, ℕ, List, ◌++◌, map, take}
use Rattle.jn_base.specs.declared.tree.Name.{Name}
use Rattle.jn_base.specs.declared.tree.Method.{Method}
use Rattle.jn_base.specs.declared.tree.Program.{Program}
use Rattle.jn_base.specs.declared.types.Ty.{Ty}
use Rattle.jn_base.specs.declared.names.Var.{Var}
use Rattle.jn_base.specs.Paths.{Path}
use Rattle.jn_base.specs.Atoms.{Among}
use Rattle.jn_base.specs.Scopes.{Scope}
use Rattle.jn_intern.specs.declared.scope.Bind.{Bind}
use Rattle.jn_intern.specs.Pools.{Keeps, ScopeInPool, scope_in}
use Rattle.jn_laws.specs.LawsOfWritten.{site_with, scope_of, SiteFits}
use Rattle.jn_rules.specs.Stmts.{Before, In}
use Rattle.jn_expr.specs.declared.env.Env.{Env}
use Rattle.jn_expr.specs.Envs.{parts}
use Rattle.jn_check.specs.declared.state.Locals.{Locals}
use Rattle.jn_check.specs.Masks.{bare}

-- a statement stands in this method of the declaration at C, whose result has the type t
abbrev pub in_at : Path → Method → Ty → In
in_at C m t = record { class = C; method = m; result = t }

abbrev pub before_in : List Var → Scope → ℕ → Before
before_in vars s n = record { vars = vars; scope = s; next = n }

-- what stands before a statement, as the rules have it
abbrev pub before_at : Env → Locals → Before
before_at env x = before_in env.vars.list (scope_in env.pool x.scope) x.next

-- The declared types fit. The next number is above those of the variables, and these are below 256. One scope has the declared types, and the other is
-- the same but for masks.
pub record IsBefore (p : Program) (C : Path) (m : Name) (pool : List Ty) (vars : List Var) (x : Locals) : Type 0 where
  pub fits : SiteFits p (site_with C m vars)
  pub numbered : (v : Var) → Among vars v → v.path < x.next
  pub low : (v : Var) → Among vars v → v.path < 256
  pub above : 0 < x.next
  pub known_declared : ScopeInPool pool x.declared
  pub declared : scope_in pool x.declared ≡ scope_of (site_with C m vars)
  pub known : ScopeInPool pool x.scope
  pub agree : map bare (scope_in pool x.scope) ≡ map bare (scope_of (site_with C m vars))

-- Nothing of the program is changed but the variables in scope, and each older number of the pool shows the same.
pub record StaysButVars (old new : Env) : Type 0 where
  pub same : parts new ≡ record (parts old) { vars = new.vars.list }
  pub pool : Keeps old.pool new.pool

-- behind a statement there may be more variables in scope
pub record IsAfter (p : Program) (C : Path) (m : Name) (old : Env) (x : Locals) (new : Env) (y : Locals) : Type 0 where
  pub before : IsBefore p C m new.pool new.vars.list y
  pub more : List Var
  pub vars : new.vars.list ≡ old.vars.list ++ more
  pub binds : List Bind
  pub declared : y.declared.binds.items ≡ x.declared.binds.items ++ binds
  pub next : x.next ≤ y.next

-- behind a block there are none
pub record IsBack (p : Program) (C : Path) (m : Name) (old : Env) (x : Locals) (new : Env) (y : Locals) : Type 0 where
  pub before : IsBefore p C m new.pool new.vars.list y
  pub vars : new.vars.list ≡ old.vars.list
  pub declared : y.declared.binds.items ≡ x.declared.binds.items
  pub next : x.next ≤ y.next

-- all is as it was
pub record IsKept (x y : Locals) : Type 0 where
  pub declared : y.declared.binds.items ≡ x.declared.binds.items
  pub scope : y.scope.binds.items ≡ x.scope.binds.items
  pub next : y.next ≡ x.next

-- only so many variables and so many paths are in scope any more
pub record IsLeft (old : Env) (x : Locals) (vars paths : ℕ) (new : Env) (y : Locals) : Type 0 where
  pub same : parts new ≡ record (parts old) { vars = take vars old.vars.list }
  pub pool : new.pool ≡ old.pool
  pub marks : new.marks ≡ old.marks
  pub declared : y.declared.binds.items ≡ take paths x.declared.binds.items
  pub scope : y.scope.binds.items ≡ take paths x.scope.binds.items
  pub next : y.next ≡ x.next

-- the parts of the program are the same
pub record SameProgram (old new : Env) : Type 0 where
  pub same : parts new ≡ record (parts old) { vars = new.vars.list; class = new.class; method = new.method }
  pub pool : Keeps old.pool new.pool
