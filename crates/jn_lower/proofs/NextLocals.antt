-- The number of the next local behind a statement, form by form.
use Rattle.std.proofs.Common.{◌≡◌, ℕ, suc, List, sym, ap, ◌∙◌}
use Rattle.jn_base.specs.declared.tree.Stmt.{Stmt, roll-Stmt}
use Rattle.jn_base.specs.declared.tree.Stmt.TheOpen.{Stmt-F}
use Rattle.jn_base.specs.declared.tree.Stmt.TheFolds.{para-roll-Stmt, map-Stmt}
use Rattle.jn_base.specs.declared.tree.Stmt.TheVariants as stmt
use Rattle.jn_base.specs.declared.tree.TypeTerm.{TypeTerm}
use Rattle.jn_base.specs.declared.tree.Named.{Named}
use Rattle.jn_base.specs.declared.tree.Expr.{Expr}
use Rattle.jn_base.specs.declared.tree.Place.{Place}
use Rattle.std.specs.Prelude.{Bool, Option, Some, None, Result, Ok, Err, IfSome, IfOk}
use Rattle.jn_sem.specs.Acts.{InBody, stmt_step, in_body, with_work, path_behind}

stmt_is : (s x : Stmt) (d : Stmt-F Stmt) → s ≡ x → roll-Stmt d ≡ x → in_body s ≡ stmt_step (map-Stmt _ _ with_work d)
stmt_is s x d h e = ap in_body h ∙ ap in_body (sym e) ∙ para-roll-Stmt InBody stmt_step d

abbrev after_of : ℕ → InBody → ℕ
after_of path b = b.path_after path

module _ (s : Stmt) (path : ℕ) where
  pub behind_block : (body : List Stmt) → s ≡ stmt.Block body → (in_body s).path_after path ≡ path_behind body path
  behind_block body h = ap (after_of path) (stmt_is s _ _ h (stmt.rolls-Block body))

  pub behind_local : (fixed : Bool) (t : TypeTerm) (x : Named) (e : Expr) → s ≡ stmt.Local fixed t x e → (in_body s).path_after path ≡ suc path
  behind_local fixed t x e h = ap (after_of path) (stmt_is s _ _ h (stmt.rolls-Local fixed t x e))

  pub behind_if : (e : Expr) (one other : List Stmt) (at : Place) → s ≡ stmt.If e one other at
      → (in_body s).path_after path ≡ path_behind other (path_behind one path)
  behind_if e one other at h = ap (after_of path) (stmt_is s _ _ h (stmt.rolls-If e one other at))

  pub behind_while : (e : Expr) (body : List Stmt) (at : Place) → s ≡ stmt.While e body at → (in_body s).path_after path ≡ path_behind body path
  behind_while e body at h = ap (after_of path) (stmt_is s _ _ h (stmt.rolls-While e body at))

  pub behind_assign : (x : Named) (e : Expr) → s ≡ stmt.Assign x e → (in_body s).path_after path ≡ path
  behind_assign x e h = ap (after_of path) (stmt_is s _ _ h (stmt.rolls-Assign x e))

  pub behind_set : (r : Expr) (x : Named) (e : Expr) → s ≡ stmt.Set r x e → (in_body s).path_after path ≡ path
  behind_set r x e h = ap (after_of path) (stmt_is s _ _ h (stmt.rolls-Set r x e))

  pub behind_do : (e : Expr) → s ≡ stmt.Do e → (in_body s).path_after path ≡ path
  behind_do e h = ap (after_of path) (stmt_is s _ _ h (stmt.rolls-Do e))

  pub behind_return : (e : Option Expr) (at : Place) → s ≡ stmt.Return e at → (in_body s).path_after path ≡ path
  behind_return e at h = ap (after_of path) (stmt_is s _ _ h (stmt.rolls-Return e at))

  pub behind_print : (e : Expr) (at : Place) → s ≡ stmt.Print e at → (in_body s).path_after path ≡ path
  behind_print e at h = ap (after_of path) (stmt_is s _ _ h (stmt.rolls-Print e at))

  pub behind_text : (t : ℕ) (at : Place) → s ≡ stmt.PrintText t at → (in_body s).path_after path ≡ path
  behind_text t at h = ap (after_of path) (stmt_is s _ _ h (stmt.rolls-PrintText t at))

-- what follows where something was found
pub if_some : {A : Type 0} {P Q : A → Type 0} (o : Option A) → ((a : A) → P a → Q a) → IfSome o P → IfSome o Q
if_some None f h = h
if_some (Some a) f h = f a h

pub if_ok : {A E : Type 0} {P Q : A → Type 0} (r : Result A E) → ((a : A) → P a → Q a) → IfOk r P → IfOk r Q
if_ok (Ok a) f h = f a h
if_ok (Err e) f h = h
