-- The parts of a view change.
use Rattle.std.specs.Prelude.{◌≡◌, cond, Result, Ok, Err}
use Rattle.jn_base.specs.declared.tree.Place.{Place}
use Rattle.jn_base.specs.declared.tree.ViewTerm.{ViewTerm}
use Rattle.jn_base.specs.declared.tree.Program.{Program}
use Rattle.jn_base.specs.declared.types.Ty.{Ty}
use Rattle.jn_base.specs.declared.names.Role.TheVariants as role
use Rattle.jn_base.specs.declared.names.Resolved.{Resolved}
use Rattle.jn_base.specs.Scopes.{Scope}
use Rattle.jn_heads.specs.declared.fault.CheckFault.{CheckFault}
use Rattle.jn_heads.specs.declared.fault.CheckFault.TheVariants.{Refused, Memory}
use Rattle.jn_rules.specs.Plans.{Target, target_type, Plan, then_do, wants}
use Rattle.jn_rules.specs.Questions.{TargetIs, Gives}
use Rattle.jn_rules.specs.Exprs.{Here, Typed, site_here, gives, mismatch, is_object, header_grants, by_sharing, viewed_as, viewed}
use Rattle.jn_expr.specs.Steps.{Leads}

-- the type is that of the target for which the term stands, or it is refused
abbrev pub TargetTold : Program → Here → ViewTerm → Result Ty CheckFault → Type 0
TargetTold p h v (Ok t) = (u : Target) × TargetIs p role.View (site_here h) v (Ok u) × (t ≡ target_type u)
TargetTold p h v (Err (Refused r)) = TargetIs p role.View (site_here h) v (Err r)
TargetTold p h v (Err Memory) = Unit {0}

-- it is the type of a target, and what goes on with that is left; or the whole is refused
abbrev pub TargetLeads : Program → Plan Typed → (Target → Plan Typed) → Resolved → Resolved → Result Ty CheckFault → Type 0
TargetLeads p whole go before after (Ok t) = (u : Target) × (t ≡ target_type u) × Leads p whole (go u) before after
TargetLeads p whole go before after (Err (Refused r)) = Gives p whole (Err r)
TargetLeads p whole go before after (Err Memory) = Unit {0}

-- a view of a value that is no null
abbrev pub granted_or : Here → Place → Target → Ty → Scope → Plan Typed
granted_or h at u t s =
    then_do (header_grants h s t u) (λ ok. cond ok (gives (viewed_as u s)) (by_sharing at s t u (viewed_as u s) u.atom.anchor))

-- a view of a value that stands at `place`
abbrev pub changed : Here → Place → Place → Target → Typed → Plan Typed
changed h at place u x = wants (is_object x.ty) (mismatch h place) (viewed h at u x)
