-- What one constraint grants.
use Rattle.std.specs.Prelude.{◌≡◌, Bool}
use Rattle.jn_base.specs.declared.tree.Name.{Name}
use Rattle.jn_base.specs.declared.tree.Constraint.{Constraint}
use Rattle.jn_base.specs.declared.tree.Program.{Program}
use Rattle.jn_base.specs.declared.types.Ty.{Ty}
use Rattle.jn_base.specs.Paths.{Path}
use Rattle.jn_base.specs.Scopes.{Scope}
use Rattle.jn_table.specs.declared.table.Table.{Table}
use Rattle.jn_table.specs.Tables.{IsFilled}
use Rattle.jn_heads.specs.declared.sides.Pledge.{Pledge}
use Rattle.jn_rules.specs.Plans.{Target, target_type, Pledge as TypedPledge, OfConstraint, Grants, Plan, done, ask, taken}
use Rattle.jn_rules.specs.Questions.{Answers, IsGrant}

-- whether the constraint grants the view change, of whatever program the table is, and whatever targets the types are of
abbrev pub GrantTold : Table → Scope → Pledge → Ty → Ty → Bool → Type 0
GrantTold t s k from to r =
    (p : Program) (c : TypedPledge) (u : Target) → IsFilled p t → k.from ≡ target_type c.from → k.to ≡ target_type c.to
    → to ≡ target_type u → Answers (IsGrant p s c from u) r

-- a constraint in the header of the method at Q: whether it grants the view change
abbrev pub constraint_grants : Path → Name → Constraint → Scope → Ty → Target → Plan Bool
constraint_grants Q m c s t u = ask (OfConstraint Q m c) (taken (λ x. ask (Grants s x t u) (λ ok. done ok)))
