-- The type of an expression, where its method is found by its name.
use Rattle.std.proofs.Common.{◌≡◌, ℕ, List, Result, Ok, Err, reverse, sym, ap, ◌∙◌, subst}
use Rattle.std.proofs.lemmas.List.{reverse-reverse}
use Rattle.jn_base.specs.declared.tree.Name.{Name}
use Rattle.jn_base.specs.declared.tree.Method.{Method}
use Rattle.jn_base.specs.declared.tree.Expr.{Expr}
use Rattle.jn_base.specs.declared.tree.Program.{Program}
use Rattle.jn_base.specs.declared.names.Resolved.{Resolved}
use Rattle.jn_base.specs.declared.names.Var.{Var}
use Rattle.jn_base.specs.declared.path.Path.{Path as ShownPath}
use Rattle.jn_base.specs.declared.types.Ty.{Ty}
use Rattle.jn_base.specs.Paths.{Path, shown}
use Rattle.jn_base.specs.Scopes.{Scope as TypeScope}
use Rattle.jn_heads.specs.declared.fault.CheckFault.{CheckFault}
use Rattle.jn_heads.specs.declared.fault.CheckFault.TheVariants.{Refused, Memory}
use Rattle.jn_intern.specs.declared.scope.Scope.{Scope}
use Rattle.jn_rules.specs.Exprs.{Typed, expr_types}
use Rattle.jn_expr.specs.declared.env.Value.{Value}
use Rattle.jn_expr.specs.Envs.{here_at}
use Rattle.jn_expr.specs.Told.{Went, PlanTold}
use Rattle.jn_expr.specs.Typing.{TypeTold}
use Rattle.jn_expr.specs.Values.{typed_in}

pub names_of : (c : ShownPath) (Q : Path) → c ≡ shown Q → reverse c.names ≡ Q
names_of c Q e = ap (λ (x : ShownPath). reverse x.names) e ∙ reverse-reverse Q

module _ (p : Program) (R Q : Path) (x m : Method) (vars : List Var) (e : Expr) (s : TypeScope) (pool : List Ty) (scope : Scope) (m0 m1 : Resolved) (at : R ≡ Q) (is : x ≡ m) where
  pub type_told : (v : Value) → Went p (expr_types (here_at R x vars) e s) (typed_in pool scope v) m0 m1
      → TypeTold p (expr_types (here_at Q m vars) e s) pool scope m0 m1 (Ok v.ty)
  type_told v w = (
    v.path,
    subst (λ (y : Method). Went p (expr_types (here_at Q y vars) e s) (typed_in pool scope v) m0 m1) is
        (subst (λ (P : Path). Went p (expr_types (here_at P x vars) e s) (typed_in pool scope v) m0 m1) at w),
  )

  pub type_fault : (f : CheckFault) → PlanTold p (expr_types (here_at R x vars) e s) (typed_in pool scope) m0 m1 (Err f)
      → TypeTold p (expr_types (here_at Q m vars) e s) pool scope m0 m1 (Err f)
  type_fault f g = of f
      (subst (λ (y : Method). PlanTold p (expr_types (here_at Q y vars) e s) (typed_in pool scope) m0 m1 (Err f)) is
      (subst (λ (P : Path). PlanTold p (expr_types (here_at P x vars) e s) (typed_in pool scope) m0 m1 (Err f)) at g)) where
        of : (k : CheckFault) → PlanTold p (expr_types (here_at Q m vars) e s) (typed_in pool scope) m0 m1 (Err k)
            → TypeTold p (expr_types (here_at Q m vars) e s) pool scope m0 m1 (Err k)
        of (Refused r) h = h
        of Memory h = tt
