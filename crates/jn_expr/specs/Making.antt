-- The parts of `new`.
use Rattle.std.specs.Prelude.{◌≡◌, List, [], ◌∷◌, Option, Some, None}
use Rattle.jn_base.specs.declared.tree.Name.{Name}
use Rattle.jn_base.specs.declared.tree.Expr.{Expr}
use Rattle.jn_base.specs.declared.tree.Method.{Method}
use Rattle.jn_base.specs.declared.tree.Program.{Program}
use Rattle.jn_base.specs.declared.types.Ty.{Ty}
use Rattle.jn_base.specs.Paths.{Path}
use Rattle.jn_base.specs.Members.{MethodAt}
use Rattle.jn_intern.specs.declared.scope.Scope.{Scope as NumberScope}
use Rattle.jn_intern.specs.Pools.{InPool, shown, scope_in}
use Rattle.jn_rules.specs.Plans.{Plan, then_do}
use Rattle.jn_rules.specs.Exprs.{Here, Typed, Typing, args_typed, replaced_paths, gives}
use Rattle.jn_expr.specs.declared.env.Call.{Call}
use Rattle.jn_expr.specs.declared.env.Value.{Value}
use Rattle.jn_expr.specs.declared.news.Making.{Making}
use Rattle.jn_expr.specs.Envs.{IsScope}
use Rattle.jn_expr.specs.Passing.{Grows}
use Rattle.jn_expr.specs.Values.{typed_in, TypedFits}

-- the declaration at Q has the body of the constructor of B
abbrev pub HasConstructor : Program → Path → Path → Method → Type 0
HasConstructor p [] Q x = ⊥
HasConstructor p (C ∷ P) Q x = MethodAt p Q C x

-- the last name of the path, where it has one
abbrev pub IsLast : Path → Option Name → Type 0
IsLast [] o = o ≡ None
IsLast (C ∷ P) o = o ≡ Some C

-- the arguments of the constructor, where there is one, and then the new object
abbrev pub made_call : Here → List Ty → NumberScope → List (Expr × Typing) → Value → Option Call → Plan Typed
made_call h pool scope es v None = gives (typed_in pool scope v)
made_call h pool scope es v (Some call) =
    then_do (args_typed h (replaced_paths call.header.at.vars.list) call.header.at.vars.list es call.paths.items (scope_in pool scope))
    (λ x. gives (record { ty = shown pool v.ty; path = v.path; scope = x.scope }))

abbrev pub made_left : Here → List Ty → NumberScope → List (Expr × Typing) → Making → Plan Typed
made_left h pool scope es m = made_call h pool scope es m.value m.call

-- the new object has its number and fits
pub record IsMade (pool : List Ty) (before after : NumberScope) (m : Making) : Type 0 where
  pub number : InPool pool m.value.ty
  pub scope : IsScope pool after
  pub grows : Grows before after
  pub fits : TypedFits (typed_in pool after m.value)
