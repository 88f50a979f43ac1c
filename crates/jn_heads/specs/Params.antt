-- Parameters and headers, as places with numbers of a pool.
use Rattle.std.specs.Prelude.{List, Result, Ok, Err}
use Rattle.jn_base.specs.declared.tree.Param.{Param}
use Rattle.jn_base.specs.declared.tree.Program.{Program}
use Rattle.jn_base.specs.declared.types.Ty.{Ty}
use Rattle.jn_sem.specs.Does.{Body}
use Rattle.jn_intern.specs.Pools.{shown}
use Rattle.jn_rules.specs.Plans.{OfType}
use Rattle.jn_rules.specs.Questions.{Means, Gives}
use Rattle.jn_rules.specs.Headers.{Header as TypedHeader, params_typed}
use Rattle.jn_heads.specs.declared.fault.CheckFault.{CheckFault}
use Rattle.jn_heads.specs.declared.fault.CheckFault.TheVariants.{Refused, Memory}
use Rattle.jn_heads.specs.declared.params.Header.{Header}
use Rattle.jn_heads.specs.declared.place.Place.{Place}
use Rattle.jn_heads.specs.Places.{Stands, HasParam, IsIn, site_of}

-- the parameter is behind the others, or its type is refused
abbrev pub ParamTold : Program → List Ty → Place → Param → Place → Result (Unit {0}) CheckFault → Type 0
ParamTold p pool before x after (Ok u) = Stands p pool after × HasParam p before x after
ParamTold p pool before x after (Err (Refused r)) = Means p (OfType (site_of before) x.ty) (Err r)
ParamTold p pool before x after (Err Memory) = Unit {0}

-- all parameters of the body are in scope
pub record HaveParams (p : Program) (pool : List Ty) (b : Body) (before : Place) (xs : List Param) (after : Place) : Type 0 where
  pub stands : Stands p pool after
  pub within : IsIn b after
  pub gives : Gives p (params_typed b before.vars.list xs) (Ok after.vars.list)

-- and so they are, or the first refusal is answered
abbrev pub ParamsTold : Program → List Ty → Body → Place → List Param → Place → Result (Unit {0}) CheckFault → Type 0
ParamsTold p pool b before xs after (Ok u) = HaveParams p pool b before xs after
ParamsTold p pool b before xs after (Err (Refused r)) = Gives p (params_typed b before.vars.list xs) (Err r)
ParamsTold p pool b before xs after (Err Memory) = Unit {0}

-- a header with its types
abbrev pub header_in : List Ty → Header → TypedHeader
header_in pool h = record { vars = h.at.vars.list; result = shown pool h.result }
