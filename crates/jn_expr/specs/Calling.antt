-- The parts of calls.
use Rattle.std.specs.Prelude.{◌≡◌, ◌++◌, ℕ, List, [], ◌∷◌, length, Option, Result, Ok, Err}
use Rattle.jn_base.specs.declared.tree.Name.{Name}
use Rattle.jn_base.specs.declared.tree.Named.{Named}
use Rattle.jn_base.specs.declared.tree.Method.{Method}
use Rattle.jn_base.specs.declared.tree.Place.{Place}
use Rattle.jn_base.specs.declared.tree.Expr.{Expr}
use Rattle.jn_base.specs.declared.tree.Program.{Program}
use Rattle.jn_base.specs.declared.types.Ty.{Ty}
use Rattle.jn_base.specs.declared.names.Resolved.{Resolved}
use Rattle.jn_base.specs.declared.names.Var.{Var}
use Rattle.jn_base.specs.Paths.{Path}
use Rattle.jn_base.specs.Members.{MethodAt}
use Rattle.jn_base.specs.Atoms.{Atom, atoms_in, Among}
use Rattle.jn_base.specs.Scopes.{Scope, bound}
use Rattle.jn_sem.specs.Does.{Body}
use Rattle.jn_intern.specs.declared.scope.Scope.{Scope as NumberScope}
use Rattle.jn_heads.specs.declared.fault.CheckFault.{CheckFault}
use Rattle.jn_heads.specs.declared.fault.CheckFault.TheVariants.{Refused, Memory}
use Rattle.jn_heads.specs.declared.params.Header.{Header}
use Rattle.jn_heads.specs.Params.{header_in}
use Rattle.jn_laws.specs.LawsOfFits.{AsDeep}
use Rattle.jn_rules.specs.Plans.{IsBelow, Plan, ask, then_do, wants}
use Rattle.jn_rules.specs.Questions.{Gives}
use Rattle.jn_rules.specs.Headers.{Header as TypedHeader, header_typed}
use Rattle.jn_rules.specs.Exprs.{Here, Typed, Typing, Passed, method_with, args_typed, arg_passed, put_in, result_gives, replaced_paths, path_or_fresh, mismatch}
use Rattle.jn_rule_laws.specs.LawsOfOneHeader.{HeaderFits}
use Rattle.jn_rule_laws.specs.LawsOfForms.{PutFor, header_scope}
use Rattle.jn_expr.specs.declared.env.Call.{Call}
use Rattle.jn_expr.specs.Envs.{IsScope}
use Rattle.jn_expr.specs.Passing.{Grows, passing_in}
use Rattle.jn_expr.specs.Steps.{Leads, IsCall}

abbrev pub body_of : Path → Method → Body
body_of Q m = record { class = Q; method = m }

-- ---- receivers

-- the class that has the body of the method was found; what is left with that body, or the whole is refused
abbrev pub OwnerLeads : Program → Name → Plan Typed → (Body → Plan Typed) → Resolved → Resolved → Result Path CheckFault → Type 0
OwnerLeads p n whole left before after (Ok Q) = (x : Method) → MethodAt p Q n x → Leads p whole (left (body_of Q x)) before after
OwnerLeads p n whole left before after (Err (Refused r)) = Gives p whole (Err r)
OwnerLeads p n whole left before after (Err Memory) = Unit {0}

-- what is asked with the body of the method that is called
abbrev pub receiver_left : Here → Named → List (Expr × Typing) → Typed → Body → Plan Typed
receiver_left h n es x b = then_do (header_typed b) (method_with h n es x b)

-- ---- arguments

-- the arguments, and then the result
abbrev pub called : Here → TypedHeader → List (Expr × Typing) → List ℕ → Scope → Plan Typed
called h c es to s = then_do (args_typed h (replaced_paths c.vars) c.vars es to s) (result_gives c)

-- the call has the header, and the path of its receiver
pub record Begins (header : Header) (first : ℕ) (call : Call) : Type 0 where
  pub kept : call.header ≡ header
  pub from : call.from.items ≡ replaced_paths header.at.vars.list
  pub paths : call.paths.items ≡ first ∷ []

-- a call whose receiver has the type, and its own path or a fresh one
pub record IsBegun (pool : List Ty) (old : Scope) (before after : NumberScope) (t : Ty) (path : Option ℕ) (call : Call) : Type 0 where
  pub is_call : IsCall pool call
  pub first : ℕ
  pub paths : call.paths.items ≡ first ∷ []
  pub passing : passing_in pool after first ≡ path_or_fresh t path old
  pub scope : IsScope pool after
  pub grows : Grows before after

-- an atom of the type has a bound as deep as the path
pub record DeepAs (s : Scope) (t : Ty) (Q : Path) : Type 0 where
  pub atom : Atom
  pub among : Among (atoms_in t) atom
  pub depth : length (bound s atom) ≡ length Q

-- The call is of a body whose header fits. In the scope the path of its receiver is as deep as `this` is there, and each further
-- path as the parameter for which it is put.
pub record CallFits (p : Program) (pool : List Ty) (s : Scope) (call : Call) : Type 0 where
  pub is_call : IsCall pool call
  pub body : Body
  pub header : HeaderFits p body (header_in pool call.header)
  pub first : ℕ
  pub others : List ℕ
  pub paths : call.paths.items ≡ first ∷ others
  pub this : AsDeep (header_scope body (header_in pool call.header)) s 0 first
  pub done : List Var
  pub rest : List Var
  pub vars : call.header.at.vars.list ≡ done ++ rest
  pub put : PutFor (header_scope body (header_in pool call.header)) s done others

-- one argument: E18 if it is not below the parameter's type; and then `go` with the paths that are known
abbrev pub arg_left : Here → (from : List ℕ) → Var → Place → Typed → (to : List ℕ) → (List ℕ → Scope → Plan Passed) → Plan Passed
arg_left h from x at t to go =
    ask (IsBelow t.scope t.ty (put_in t.scope from to x.ty)) (λ ok. wants ok (mismatch h at)
    (go (to ++ (arg_passed from to x t).path ∷ []) (arg_passed from to x t).scope))

-- a call with more paths, and the same header
pub record IsPassed (pool : List Ty) (before after : NumberScope) (old new : Call) : Type 0 where
  pub header : new.header ≡ old.header
  pub from : new.from.items ≡ old.from.items
  pub scope : IsScope pool after
  pub grows : Grows before after
