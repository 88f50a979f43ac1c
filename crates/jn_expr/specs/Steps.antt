-- How far a plan has come.
use Rattle.std.specs.Prelude.{◌≡◌, ℕ, List, ◌++◌, nat_eq, length, Some, None, Result, Ok, Err}
use Rattle.jn_base.specs.declared.tree.Link.{Link}
use Rattle.jn_base.specs.declared.tree.Place.{Place}
use Rattle.jn_base.specs.declared.tree.Program.{Program}
use Rattle.jn_base.specs.declared.types.Ty.{Ty}
use Rattle.jn_base.specs.declared.types.Ty.TheVariants as ty
use Rattle.jn_base.specs.declared.names.Resolved.{Resolved}
use Rattle.jn_base.specs.declared.refusal.Refusal.{Refusal}
use Rattle.jn_base.specs.declared.refusal.Rule.TheVariants as rule
use Rattle.jn_base.specs.Paths.{Path}
use Rattle.jn_base.specs.Scopes.{Scope}
use Rattle.jn_table.specs.Rows.{IsNumber}
use Rattle.jn_base.specs.declared.path.Path.{Path as ShownPath}
use Rattle.jn_sem.specs.Does.{Body}
use Rattle.jn_intern.specs.Pools.{InPool, scope_in}
use Rattle.jn_intern.specs.declared.scope.Scope.{Scope as NumberScope}
use Rattle.jn_heads.specs.declared.fault.CheckFault.{CheckFault}
use Rattle.jn_heads.specs.declared.fault.CheckFault.TheVariants.{Refused, Memory}
use Rattle.jn_heads.specs.Params.{header_in}
use Rattle.jn_views.specs.declared.held.Held.{Held}
use Rattle.jn_views.specs.declared.held.Held.TheVariants.{Yes, NoCounterpart, Unshared}
use Rattle.jn_rules.specs.Plans.{Target, Holding, Refuted, Mark, MemberMark, Plan, note, then_do, wants}
use Rattle.jn_rules.specs.Questions.{Gives, Notes, SharingGives}
use Rattle.jn_rules.specs.Headers.{Header as TypedHeader, header_typed}
use Rattle.jn_rules.specs.Exprs.{Here, Typed, Typing, Passed, plain, gives, mismatch, in_method, is_int, is_bool, takes, takes_both, operator_type, replaced_paths}
use Rattle.jn_expr.specs.declared.env.Call.{Call}
use Rattle.jn_expr.specs.Told.{Adds}

-- Of the plan `whole` the plan `rest` is left, and what was noted on the way is added: what the rest gives, the whole gives.
pub record Leads {A : Type 0} (p : Program) (whole rest : Plan A) (before after : Resolved) : Type 0 where
  pub marks : List Mark
  pub added : Adds marks before after
  pub notes : (ms : List Mark) (a : A) → Notes p rest ms a → Notes p whole (marks ++ ms) a
  pub gives : (r : Refusal) → Gives p rest (Err r) → Gives p whole (Err r)

-- what is left by the answer, or the whole is refused; of want of memory nothing is said
abbrev pub LeadsTold : {A B : Type 0} → Program → Plan A → (B → Plan A) → Resolved → Resolved → Result B CheckFault → Type 0
LeadsTold p whole rest before after (Ok x) = Leads p whole (rest x) before after
LeadsTold p whole rest before after (Err (Refused r)) = Gives p whole (Err r)
LeadsTold p whole rest before after (Err Memory) = Unit {0}

-- ---- operators

-- what `!` and `-` ask of their operand's type
abbrev pub inverted : Here → Place → Typed → Plan Typed
inverted h at x = wants (is_bool x.ty) (mismatch h at) (gives (plain ty.Bool x.scope))

abbrev pub negated : Here → Place → Typed → Plan Typed
negated h at x = wants (is_int x.ty) (mismatch h at) (gives (plain ty.Int x.scope))

-- an operator with the value so far on its left: what is asked behind its right operand
abbrev pub operated : Here → Link → Ty → Typed → Plan Typed
operated h l t y =
    wants (takes l.op y.ty) (mismatch h l.right.at)
    (wants (takes_both l.op t y.ty) (mismatch h l.at) (gives (plain (operator_type l.op) y.scope)))

-- and the whole operator
abbrev pub link_typed : Here → Place → Typed → Link → Typing → Plan Typed
link_typed h at x l right = wants (takes l.op x.ty) (mismatch h at) (then_do (right x.scope) (operated h l x.ty))

-- ---- calls

-- The header of the body that is called, E17, and the class that declares it; and then `go`.
abbrev pub entered : Here → Body → Place → ℕ → (TypedHeader → Plan Typed) → Plan Typed
entered h b at n go =
    then_do (header_typed b) (λ c. wants (nat_eq (length c.vars) n) (in_method rule.E17 h at) (note (MemberMark b.class) (go c)))

-- the call has the header, and the paths in whose place its own are put
pub record IsCall (pool : List Ty) (call : Call) : Type 0 where
  pub result : InPool pool call.header.result
  pub from : call.from.items ≡ replaced_paths call.header.at.vars.list

abbrev pub header_of_call : List Ty → Call → TypedHeader
header_of_call pool call = header_in pool call.header

-- the paths that are known, and the scope, as the rules have them
abbrev pub passed_in : List Ty → NumberScope → Call → Passed
passed_in pool scope call = record { paths = call.paths.items; scope = scope_in pool scope }

-- ---- sharing

-- what a sharing answers, by the paths of the numbers
abbrev pub SharingTold : Program → List ShownPath → Scope → Ty → Target → Held → Type 0
SharingTold p known s t u Yes = SharingGives p s t u Holding
SharingTold p known s t u (NoCounterpart id) = (U : Path) × IsNumber known id U × SharingGives p s t u (Refuted U None)
SharingTold p known s t u (Unshared id f) = (W : Path) × IsNumber known id W × SharingGives p s t u (Refuted W (Some f))
