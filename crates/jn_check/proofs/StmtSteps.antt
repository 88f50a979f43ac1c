-- What has to be asked of a statement, by its form.
use Rattle.std.proofs.Common.{◌≡◌, ◌<◌, ◌≤◌, ◌+◌, max, ℕ, suc, List, length, get_or, map, Bool, Option, ap, sym, ◌∙◌, subst, arith}
use denote.Param.Weighed.{most, at_most}
use Rattle.jn_base.proofs.tree.Stmt.TheLaws.{the_size}
use Rattle.jn_base.specs.declared.tree.Named.{Named}
use Rattle.jn_base.specs.declared.tree.Place.{Place}
use Rattle.jn_base.specs.declared.tree.Expr.{Expr}
use Rattle.jn_base.specs.declared.tree.TypeTerm.{TypeTerm}
use Rattle.jn_base.specs.declared.tree.Stmt.{Stmt}
use Rattle.jn_base.specs.declared.tree.Stmt.TheVariants as stmt
use Rattle.jn_base.specs.declared.tree.Stmt.TheViews.{sized-If}
use Rattle.jn_base.specs.declared.tree.Program.{Program}
use Rattle.jn_base.specs.declared.names.Resolved.{Resolved}
use Rattle.jn_base.specs.Resolve.{var_named}
use Rattle.jn_rules.specs.Plans.{OfType, done, ask, then_do, taken}
use Rattle.jn_rules.specs.Exprs.{site_here}
use Rattle.jn_rules.specs.Stmts.{Before, In, here, typed, block_typed, local_typed, assign_typed, set_typed, condition, choice_typed, loop_typed, return_typed, print_typed, stmt_types}
use Rattle.jn_rules.proofs.FormLaws.{stmt_forms}
use Rattle.jn_expr.specs.Told.{Went}
use Rattle.jn_expr.proofs.Leading.{leads_here, leads_done}

-- a statement is no deeper than the deepest of its block
pub stmt_below : (ss : List Stmt) (i : ℕ) (s : Stmt) → i < length ss → s ≡ get_or ss i s → the_size s ≤ most the_size ss
stmt_below ss i s lt is = subst (λ (u : Stmt). the_size u ≤ most the_size ss) (sym is) (at_most the_size ss i s lt)

-- the second block of an `if` is below it
pub other_below : (s : Stmt) (e : Expr) (one other given : List Stmt) (at : Place) → s ≡ stmt.If e one other at → given ≡ other → suc (most the_size given) ≤ the_size s
other_below s e one other given at is i =
    let sized : the_size (stmt.If e one other at) ≡ max 0 (max (most the_size one) (max (most the_size other) 0)) + 1 = sized-If e one other at in
    subst (λ (u : Stmt). suc (most the_size given) ≤ the_size u) (sym is)
    (subst (λ (rs : List Stmt). suc (most the_size rs) ≤ the_size (stmt.If e one other at)) (sym i) (omega (arith, sized)))

module _ (b : In) (x : Before) (s : Stmt) where
  as_form : (t : Stmt) → s ≡ t → stmt_types b s x ≡ stmt_types b t x
  as_form t is = ap (λ (u : Stmt). stmt_types b u x) is

  pub block_form : (ss given : List Stmt) → s ≡ stmt.Block ss → given ≡ ss → stmt_types b s x ≡ block_typed (map (stmt_types b) given) x
  block_form ss given is e = as_form (stmt.Block ss) is ∙ ((stmt_forms b x).block ss ∙ ap (λ (rs : List Stmt). block_typed (map (stmt_types b) rs) x) (sym e))

  pub local_form : (fixed : Bool) (t : TypeTerm) (n : Named) (e : Expr) → s ≡ stmt.Local fixed t n e
      → stmt_types b s x ≡ ask (OfType (site_here (here b x)) t) (taken (local_typed b x fixed n e))
  local_form fixed t n e is = as_form (stmt.Local fixed t n e) is ∙ (stmt_forms b x).local fixed t n e

  pub assign_form : (n : Named) (e : Expr) → s ≡ stmt.Assign n e → stmt_types b s x ≡ assign_typed b x n e (var_named (record { list = x.vars }) n.name)
  assign_form n e is = as_form (stmt.Assign n e) is ∙ (stmt_forms b x).assign n e

  pub set_form : (r : Expr) (f : Named) (e : Expr) → s ≡ stmt.Set r f e → stmt_types b s x ≡ set_typed b x r f e
  set_form r f e is = as_form (stmt.Set r f e) is ∙ (stmt_forms b x).set r f e

  pub call_form : (e : Expr) → s ≡ stmt.Do e → stmt_types b s x ≡ then_do (typed b x e x.scope) (λ y. done x)
  call_form e is = as_form (stmt.Do e) is ∙ (stmt_forms b x).call e

  pub choice_form : (e : Expr) (one other given_one given_other : List Stmt) (at : Place) → s ≡ stmt.If e one other at → given_one ≡ one → given_other ≡ other
      → stmt_types b s x ≡ condition b x e (choice_typed (map (stmt_types b) given_one) (map (stmt_types b) given_other) x)
  choice_form e one other given_one given_other at is i j =
      as_form (stmt.If e one other at) is
      ∙ ((stmt_forms b x).choice e one other at
      ∙ (ap (λ (rs : List Stmt). condition b x e (choice_typed (map (stmt_types b) rs) (map (stmt_types b) other) x)) (sym i)
      ∙ ap (λ (rs : List Stmt). condition b x e (choice_typed (map (stmt_types b) given_one) (map (stmt_types b) rs) x)) (sym j)))

  pub loop_form : (e : Expr) (body given : List Stmt) (at : Place) → s ≡ stmt.While e body at → given ≡ body
      → stmt_types b s x ≡ condition b x e (loop_typed (map (stmt_types b) given) x)
  loop_form e body given at is i =
      as_form (stmt.While e body at) is
      ∙ ((stmt_forms b x).loop e body at ∙ ap (λ (rs : List Stmt). condition b x e (loop_typed (map (stmt_types b) rs) x)) (sym i))

  pub return_form : (e : Option Expr) (at : Place) → s ≡ stmt.Return e at → stmt_types b s x ≡ return_typed b x e at
  return_form e at is = as_form (stmt.Return e at) is ∙ (stmt_forms b x).returns e at

  pub print_form : (e : Expr) (at : Place) → s ≡ stmt.Print e at → stmt_types b s x ≡ print_typed b x e
  print_form e at is = as_form (stmt.Print e at) is ∙ (stmt_forms b x).prints e at

  pub text_went : (p : Program) (m : Resolved) (n : ℕ) (at : Place) → s ≡ stmt.PrintText n at → Went p (stmt_types b s x) x m m
  text_went p m n at is =
      subst (λ y. Went p y x m m) (sym (as_form (stmt.PrintText n at) is ∙ (stmt_forms b x).prints_text n at)) (leads_done (leads_here (done x) m))
