-- What the typing of a whole expression tells.
use Rattle.std.specs.Prelude.{◌≡◌, ℕ, List, length, Option, Some, Result, Ok, Err}
use Rattle.jn_base.specs.declared.tree.Program.{Program}
use Rattle.jn_base.specs.declared.types.Ty.{Ty}
use Rattle.jn_base.specs.declared.names.Resolved.{Resolved}
use Rattle.jn_intern.specs.declared.pool.TyId.{TyId}
use Rattle.jn_base.specs.Scopes.{Scope as TypeScope}
use Rattle.jn_intern.specs.declared.scope.Scope.{Scope}
use Rattle.jn_heads.specs.declared.fault.CheckFault.{CheckFault}
use Rattle.jn_heads.specs.declared.fault.CheckFault.TheVariants.{Refused, Memory}
use Rattle.jn_rules.specs.Plans.{Plan}
use Rattle.jn_rules.specs.Questions.{Gives}
use Rattle.jn_rules.specs.Exprs.{Typed}
use Rattle.jn_expr.specs.declared.env.Call.{Call}
use Rattle.jn_expr.specs.Told.{Went}
use Rattle.jn_expr.specs.Steps.{IsCall}
use Rattle.jn_expr.specs.Calling.{CallFits}
use Rattle.jn_expr.specs.Values.{typed_in}

-- The number is that of the type that the plan gives, with the marks that the plan notes added; or the plan gives the
-- refusal. Of want of memory nothing is said.
abbrev pub TypeTold : Program → Plan Typed → List Ty → Scope → Resolved → Resolved → Result TyId CheckFault → Type 0
TypeTold p plan pool scope before after (Ok id) =
    (path : Option ℕ) × Went p plan (typed_in pool scope (record { ty = id; path = path })) before after
TypeTold p plan pool scope before after (Err (Refused r)) = Gives p plan (Err r)
TypeTold p plan pool scope before after (Err Memory) = Unit {0}

-- where there is a call, it fits, of a body with n parameters, and has the path of its receiver alone: its arguments are still to come
pub record AwaitsArgs (p : Program) (pool : List Ty) (s : TypeScope) (n : ℕ) (o : Option Call) : Type 0 where
  pub call : (c : Call) → o ≡ Some c → IsCall pool c
  pub begun : (c : Call) → o ≡ Some c → length c.paths.items ≡ 1
  pub fits : (c : Call) → o ≡ Some c → CallFits p pool s c
  pub count : (c : Call) → o ≡ Some c → length c.header.at.vars.list ≡ n
