-- What a call tells of a plan: an answer with its marks, or a refusal.
use Rattle.std.specs.Prelude.{◌≡◌, List, [], ◌++◌, Some, None, Result, Ok, Err}
use Rattle.jn_base.specs.declared.tree.Name.{Name}
use Rattle.jn_base.specs.declared.tree.Place.{Place}
use Rattle.jn_base.specs.declared.tree.Program.{Program}
use Rattle.jn_base.specs.declared.names.Resolved.{Resolved}
use Rattle.jn_base.specs.declared.refusal.Refusal.{Refusal}
use Rattle.jn_base.specs.declared.refusal.Rule.{Rule}
use Rattle.jn_base.specs.Paths.{Path, shown}
use Rattle.jn_heads.specs.declared.fault.CheckFault.{CheckFault}
use Rattle.jn_heads.specs.declared.fault.CheckFault.TheVariants.{Refused, Memory}
use Rattle.jn_rules.specs.Plans.{Mark, Plan}
use Rattle.jn_rules.specs.Questions.{Gives, Notes}
use Rattle.jn_rules.specs.Resolved.{atom_marked, var_marked, member_marked, kind_marked}

-- behind the marks that were there stand these, sorted
pub record Adds (ms : List Mark) (before after : Resolved) : Type 0 where
  pub class : after.class ≡ before.class
  pub method : after.method ≡ before.method
  pub terms : after.terms ≡ before.terms ++ atom_marked ms
  pub vars : after.vars ≡ before.vars ++ var_marked ms
  pub members : after.members ≡ before.members ++ member_marked ms
  pub kinds : after.kinds ≡ before.kinds ++ kind_marked ms

-- the plan gives the answer, and what it notes on the way is added
pub record Went {A : Type 0} (p : Program) (plan : Plan A) (a : A) (before after : Resolved) : Type 0 where
  pub marks : List Mark
  pub notes : Notes p plan marks a
  pub added : Adds marks before after

-- The plan gives what the answer shows, with its marks; or it gives the refusal. Of want of memory nothing is said.
abbrev pub PlanTold : {A B : Type 0} → Program → Plan A → (B → A) → Resolved → Resolved → Result B CheckFault → Type 0
PlanTold p plan show before after (Ok x) = Went p plan (show x) before after
PlanTold p plan show before after (Err (Refused r)) = Gives p plan (Err r)
PlanTold p plan show before after (Err Memory) = Unit {0}

-- the same of a plan that notes nothing
abbrev pub QuietTold : {A B : Type 0} → Program → Plan A → (B → A) → Result B CheckFault → Type 0
QuietTold p plan show (Ok x) = Notes p plan [] (show x)
QuietTold p plan show (Err (Refused r)) = Gives p plan (Err r)
QuietTold p plan show (Err Memory) = Unit {0}

-- it is this refusal, or want of memory
abbrev pub FaultIs : CheckFault → Refusal → Type 0
FaultIs (Refused q) r = q ≡ r
FaultIs Memory r = Unit {0}

-- it is want of memory
abbrev pub IsMemory : {A : Type 0} → Result A CheckFault → Type 0
IsMemory (Ok x) = Unit {0}
IsMemory (Err (Refused q)) = ⊥
IsMemory (Err Memory) = Unit {0}

-- a refusal by a rule at a place, with a class and a name
abbrev pub refusal_at : Rule → Place → Path → Name → Refusal
refusal_at rule at Q n = record { rule = rule; at = at; class = Some (shown Q); member = Some n; limit = None }
