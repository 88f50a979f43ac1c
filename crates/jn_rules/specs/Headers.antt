-- The types of headers: parameters, results and fields, and all that is asked of the headers of a program, in source
-- order.
use Rattle.std.specs.Prelude.{suc, List, [], ◌∷◌, ◌++◌, length, map, not, Option, Some, None}
use Rattle.jn_base.specs.declared.tree.Field.{Field}
use Rattle.jn_base.specs.declared.tree.Param.{Param}
use Rattle.jn_base.specs.declared.tree.Method.{Method}
use Rattle.jn_base.specs.declared.tree.Constraint.{Constraint}
use Rattle.jn_base.specs.declared.tree.TypeTerm.{TypeTerm}
use Rattle.jn_base.specs.declared.tree.Member.TheOpen.{Member-F, Decl-F}
use Rattle.jn_base.specs.declared.tree.Decl.{Decl, fold-Decl}
use Rattle.jn_base.specs.declared.tree.Program.{Program}
use Rattle.jn_base.specs.declared.types.Ty.{Ty}
use Rattle.jn_base.specs.declared.types.Ty.TheVariants as ty
use Rattle.jn_base.specs.declared.names.Role.TheVariants as role
use Rattle.jn_base.specs.declared.names.Var.{Var}
use Rattle.jn_base.specs.declared.refusal.Refusal.{Refusal}
use Rattle.jn_base.specs.declared.refusal.Rule.TheVariants as rule
use Rattle.jn_base.specs.Paths.{Path, shown}
use Rattle.jn_base.specs.Scopes.{Scope}
use Rattle.jn_base.specs.Resolve.{scope_at}
use Rattle.jn_sem.specs.NormalFunction.{normal_type}
use Rattle.jn_sem.specs.NotFamily.{Listed, not_family, own_listed}
use Rattle.jn_sem.specs.Terms.{Site, spot_at, vars_at}
use Rattle.jn_sem.specs.Does.{Body, var}
use Rattle.jn_rules.specs.Plans.{OfType, OfFieldType, OfConstraint, IsTop, LacksFamily, Plan, done, ask, then_do, wants, taken, Nothing, in_turn}

-- ---- a method's header

-- `this` and the variables in scope there, each with its declared type
abbrev pub scope_of : Site → Scope
scope_of at = scope_at (spot_at at role.Value) (vars_at at)

-- the type of a parameter, result or local: what is resolved, in normal form
abbrev pub declared_type : Site → Ty → Ty
declared_type at t = normal_type (scope_of at) t

-- in a body, with these variables in scope
abbrev pub site_in : Body → List Var → Site
site_in b vars = record { class = b.class; method = b.method.name.name; vars = vars }

-- The parameters behind those before, each with those to its left in scope; they are paths 1, 2, ..
abbrev pub param_after : Body → List Var → Param → Ty → Var
param_after b before x t = var x.name.name (suc (length before)) x.fixed (declared_type (site_in b before) t)

abbrev pub params_typed : Body → List Var → List Param → Plan (List Var)
params_typed b before [] = done before
params_typed b before (x ∷ xs) =
    ask (OfType (site_in b before) x.ty) (taken (λ t. params_typed b (before ++ param_after b before x t ∷ []) xs))

-- void, or a type in which all parameters are in scope
abbrev pub result_typed : Body → List Var → Option TypeTerm → Plan Ty
result_typed b vars None = done ty.Void
result_typed b vars (Some t) = ask (OfType (site_in b vars) t) (taken (λ u. done (declared_type (site_in b vars) u)))

-- What a body is called with, and what it gives.
pub record Header : Type 0 where
  pub vars : List Var
  pub result : Ty

-- the parameters come before the result
abbrev pub header_typed : Body → Plan Header
header_typed b =
    then_do (params_typed b [] b.method.params) (λ vars.
    then_do (result_typed b vars b.method.result) (λ t. done (record { vars = vars; result = t })))

-- ---- the headers of a program

-- a constraint, its left side first
abbrev pub constraint_asked : Path → Method → Constraint → Plan Nothing
constraint_asked Q m c = ask (OfConstraint Q m.name.name c) (taken (λ x. done tt))

-- the parameters of a method, its result, and then its constraints in order
abbrev pub method_asked : Path → Method → Plan Nothing
method_asked Q m =
    then_do (header_typed (record { class = Q; method = m })) (λ x. in_turn (map (constraint_asked Q m) m.sharing))

-- the type of a field
abbrev pub field_asked : Path → Field → Plan Nothing
field_asked Q f = ask (OfFieldType Q f.name.name f.ty) (taken (λ t. done tt))

abbrev pub unknown_listed : Listed → Refusal
unknown_listed x =
    record { rule = rule.E06; at = x.name.at; class = Some (shown x.at); member = Some x.name.name; limit = None }

-- A name in a list `adapts` or `shares`: E06 where it is no top-level name; then E12 where it is no strict super of
-- the declaration's family, or, in a list `shares`, has no class to share with.
abbrev pub listed_asked : Listed → Plan Nothing
listed_asked x =
    ask (IsTop x.name.name) (λ top. wants top (unknown_listed x)
    (ask (LacksFamily x) (λ lacks. wants (not lacks) (not_family x) (done tt))))

-- what a tree asks for, by the path of its namespace
abbrev pub Asked : Type 0
Asked = Path → Plan Nothing

abbrev pub asked_at : Path → Asked → Plan Nothing
asked_at R x = x R

abbrev pub member_asked : Member-F Asked Asked → Asked
member_asked (Member-F.Inner d) R = d R
member_asked (Member-F.Slot f) R = field_asked R f
member_asked (Member-F.Body m) R = method_asked R m

-- the names in its list, and then its members in order
abbrev pub decl_asked : Decl-F Asked Asked → Asked
decl_asked d P =
    then_do (in_turn (map listed_asked (own_listed d.name.name d.shares d.adapts P))) (λ u.
    in_turn (map (asked_at (d.name.name ∷ P)) d.members))

unfoldable pub decl_headers : Decl → Asked
decl_headers = fold-Decl Asked Asked member_asked decl_asked

-- all that is asked of the headers of a program
abbrev pub header_plan : Program → Plan Nothing
header_plan p = in_turn (map (asked_at []) (map decl_headers p.decls))

-- Example: in `void m(final base.Exp p, base[p.class].Exp q)` the type of q is resolved with p in scope, as path 1.
-- Without `final` it is E14, and with the two parameters in the other order E06.
