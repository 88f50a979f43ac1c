-- The typing of statements: variables, scope and masks behind a statement; or the first refusal. The typing of bodies.
use Rattle.std.specs.Prelude.{ℕ, suc, ◌-◌, List, [], ◌∷◌, ◌++◌, length, drop, map, Bool, true, false, not, ◌&&◌, ◌||◌, cond, nat_eq, nat_lt, Option, Some, None}
use Rattle.jn_base.specs.declared.tree.Name.{Name}
use Rattle.jn_base.specs.declared.tree.Named.{Named}
use Rattle.jn_base.specs.declared.tree.Place.{Place}
use Rattle.jn_base.specs.declared.tree.Method.{Method}
use Rattle.jn_base.specs.declared.tree.Expr.{Expr}
use Rattle.jn_base.specs.declared.tree.Stmt.{Stmt, fold-Stmt}
use Rattle.jn_base.specs.declared.tree.Stmt.TheOpen.{Stmt-F}
use Rattle.jn_base.specs.declared.tree.Member.TheOpen.{Member-F, Decl-F}
use Rattle.jn_base.specs.declared.tree.Decl.{Decl, fold-Decl}
use Rattle.jn_base.specs.declared.tree.Program.{Program}
use Rattle.jn_base.specs.declared.types.Masks.{Masks}
use Rattle.jn_base.specs.declared.types.Ty.{Ty}
use Rattle.jn_base.specs.declared.types.Ty.TheVariants as ty
use Rattle.jn_base.specs.declared.names.Var.{Var}
use Rattle.jn_base.specs.declared.refusal.Rule.TheVariants as rule
use Rattle.jn_base.specs.Paths.{Path}
use Rattle.jn_base.specs.Scopes.{Scope}
use Rattle.jn_base.specs.Resolve.{is_class, var_named, var_bind}
use Rattle.jn_sem.specs.Does.{Body, var}
use Rattle.jn_rules.specs.Plans.{FoundField, OfType, IsBelow, OfField, WithoutMask, EitherMasks, Mark, AtomMark, VarMark, MemberMark, Plan, done, refuse, note, note_all, ask, then_do, wants, taken, found_or, Nothing, in_turn}
use Rattle.jn_rules.specs.Questions.{masks_of}
use Rattle.jn_rules.specs.Headers.{site_in, scope_of, declared_type, Header, header_typed, Asked, asked_at}
use Rattle.jn_rules.specs.Exprs.{Here, site_here, Typed, in_method, mismatch, of_name, of_class, first_bound, path_of, masks_at, is_int, is_bool, field_type, expr_types}

-- What stands before a statement: the variables in scope, the scope with their present masks, and the number of the
-- next local.
pub record Before : Type 0 where
  pub vars : List Var
  pub scope : Scope
  pub next : ℕ

abbrev pub StmtTyping : Type 0
StmtTyping = Before → Plan Before

-- the body in which a statement stands: the declaration that has it, its method, and its result
pub record In : Type 0 where
  pub class : Path
  pub method : Method
  pub result : Ty

abbrev pub here : In → Before → Here
here b x = record { class = b.class; method = b.method; vars = x.vars }

-- an expression; its fresh paths are gone behind its statement
abbrev pub typed : In → Before → Expr → Scope → Plan Typed
typed b x e s = expr_types (here b x) e s

-- an expression whose type has to be below another one, else E18 at it
abbrev pub typed_below : In → Before → Expr → Scope → Ty → Plan Before → Plan Before
typed_below b x e s t go =
    then_do (typed b x e s) (λ y. ask (IsBelow y.scope y.ty t) (λ ok. wants ok (mismatch (here b x) e.at) go))

-- ---- locals and assignments

-- with one more local in scope
abbrev pub with_local : Before → Var → Before
with_local x v = record { vars = x.vars ++ v ∷ []; scope = var_bind v ∷ x.scope; next = suc x.next }

-- the atoms of a written type, as they are resolved
abbrev pub atom_marks : Ty → List Mark
atom_marks (ty.Class xs m) = map AtomMark xs
atom_marks ty.Int = []
atom_marks ty.Bool = []
atom_marks ty.Null = []
atom_marks ty.Void = []

-- a local: the type's refusals, the expression's, E18; a path has its type's masks
abbrev pub local_with : In → Before → Named → Expr → Var → Plan Before
local_with b x n e v = note (VarMark v.path) (typed_below b x e x.scope v.ty (done (with_local x v)))

-- by what its written type stands for, in normal form
abbrev pub local_typed : In → Before → Bool → Named → Expr → Ty → Plan Before
local_typed b x fixed n e t =
    note_all (atom_marks t) (local_with b x n e (var n.name x.next fixed (declared_type (site_here (here b x)) t)))

-- `x = e;`: E06, E24 where x is final, e, E18
abbrev pub assign_typed : In → Before → Named → Expr → Option Var → Plan Before
assign_typed b x n e None = refuse (of_name rule.E06 (here b x) n.at n.name)
assign_typed b x n e (Some v) =
    wants (not v.fixed) (of_name rule.E24 (here b x) n.at n.name)
    (note (VarMark v.path) (typed_below b x e x.scope v.ty (done x)))

-- ---- masks

abbrev pub remasked : Masks → Ty → Ty
remasked m (ty.Class xs n) = ty.Class xs m
remasked m ty.Int = ty.Int
remasked m ty.Bool = ty.Bool
remasked m ty.Null = ty.Null
remasked m ty.Void = ty.Void

-- the path q has these masks now
abbrev pub with_masks : Scope → ℕ → Masks → Scope
with_masks [] q m = []
with_masks (b ∷ s) q m = cond (nat_eq q b.path) (record b { ty = remasked m b.ty } ∷ s) (b ∷ with_masks s q m)

-- a path that is a `final` variable: neither `this` nor a fresh one
abbrev pub is_variable : ℕ → Bool
is_variable q = not (nat_eq q 0) && nat_lt q 256

-- the field is no mask of the path any more
abbrev pub without_mask : Before → Name → ℕ → Plan Before
without_mask x f q = ask (WithoutMask (masks_at x.scope q) f) (λ m. done (record x { scope = with_masks x.scope q m }))

-- where the receiver is a path other than `this`, the field is dropped from its masks
abbrev pub dropped : Before → Name → Option ℕ → Plan Before
dropped x f None = done x
dropped x f (Some q) = cond (is_variable q) (without_mask x f q) (done x)

-- the union of the masks of two ends, path by path
abbrev pub joined_type : Ty → Ty → Plan Ty
joined_type t u =
    cond (is_class t && is_class u) (ask (EitherMasks (masks_of t) (masks_of u)) (λ m. done (remasked m t))) (done t)

-- both ends have the same paths, in the same order
abbrev pub joined : Scope → Scope → Plan Scope
joined [] t = done []
joined (b ∷ s) [] = done (b ∷ s)
joined (b ∷ s) (c ∷ t) =
    then_do (joined_type b.ty c.ty) (λ u. then_do (joined s t) (λ v. done (record b { ty = u } ∷ v)))

-- ---- field assignments

-- `r.f = e;`: r, E18, E16, e, E18. A store to a masked field is no E19, and e is typed with the masks before the drop.
abbrev pub set_with : In → Before → Named → Expr → Typed → FoundField → Plan Before
set_with b x f e r c =
    note (MemberMark c.class)
    (typed_below b x e (path_of r.ty r).scope (field_type c (path_of r.ty r)) (dropped x f.name r.path))

-- by the receiver, which has to have the field
abbrev pub set_typed : In → Before → Expr → Named → Expr → Plan Before
set_typed b x of f e =
    then_do (typed b x of x.scope) (λ r. wants (is_class r.ty) (mismatch (here b x) of.at)
    (ask (OfField r.scope r.ty f.name) (found_or (of_class rule.E16 (first_bound r) f f.name) (set_with b x f e r))))

-- ---- blocks

-- a block brings no variable into scope behind it; the numbers of its locals stay taken
abbrev pub out_of : Before → Before → Before
out_of x y = record { vars = x.vars; scope = drop (length y.scope - length x.scope) y.scope; next = y.next }

-- one statement after the other
abbrev pub run_through : List StmtTyping → StmtTyping
run_through [] x = done x
run_through (s ∷ ss) x = then_do (s x) (run_through ss)

abbrev pub block_typed : List StmtTyping → StmtTyping
block_typed ss x = then_do (run_through ss x) (λ y. done (out_of x y))

-- E18 where it is not boolean
abbrev pub condition : In → Before → Expr → Plan Before → Plan Before
condition b x e go = then_do (typed b x e x.scope) (λ y. wants (is_bool y.ty) (mismatch (here b x) e.at) go)

-- The second block begins with the masks before the first. Behind both each path has the masks of either end.
abbrev pub choice_typed : List StmtTyping → List StmtTyping → StmtTyping
choice_typed one other x =
    then_do (block_typed one x) (λ y.
    then_do (block_typed other (record x { next = y.next })) (λ z.
    then_do (joined y.scope z.scope) (λ s. done (record { vars = x.vars; scope = s; next = z.next }))))

-- the body begins with the masks before the loop, and these are the masks behind it
abbrev pub loop_typed : List StmtTyping → StmtTyping
loop_typed body x = then_do (block_typed body x) (λ y. done (record x { next = y.next }))

-- ---- return and print

abbrev pub is_void : Ty → Bool
is_void ty.Void = true
is_void ty.Int = false
is_void ty.Bool = false
is_void ty.Null = false
is_void (ty.Class xs m) = false

-- `return;` where there is a result, and `return e;` where there is none, behind the refusals of e: E18 at `return`
abbrev pub return_typed : In → Before → Option Expr → Place → Plan Before
return_typed b x None at = wants (is_void b.result) (mismatch (here b x) at) (done x)
return_typed b x (Some e) at =
    then_do (typed b x e x.scope) (λ y. wants (not (is_void b.result)) (mismatch (here b x) at)
    (ask (IsBelow y.scope y.ty b.result) (λ ok. wants ok (mismatch (here b x) e.at) (done x))))

-- `print(e);`: E18 where e is neither int nor boolean
abbrev pub print_typed : In → Before → Expr → Plan Before
print_typed b x e =
    then_do (typed b x e x.scope) (λ y. wants (is_int y.ty || is_bool y.ty) (mismatch (here b x) e.at) (done x))

-- ---- all forms

-- each form by what is had of its blocks
abbrev pub stmt_step : In → Stmt-F StmtTyping → StmtTyping
stmt_step b (Stmt-F.Block body) x = block_typed body x
stmt_step b (Stmt-F.Local fixed t n e) x = ask (OfType (site_here (here b x)) t) (taken (local_typed b x fixed n e))
stmt_step b (Stmt-F.Assign n e) x = assign_typed b x n e (var_named (record { list = x.vars }) n.name)
stmt_step b (Stmt-F.Set of n e) x = set_typed b x of n e
stmt_step b (Stmt-F.Do e) x = then_do (typed b x e x.scope) (λ y. done x)
stmt_step b (Stmt-F.If e one other at) x = condition b x e (choice_typed one other x)
stmt_step b (Stmt-F.While e body at) x = condition b x e (loop_typed body x)
stmt_step b (Stmt-F.Return e at) x = return_typed b x e at
stmt_step b (Stmt-F.Print e at) x = print_typed b x e
stmt_step b (Stmt-F.PrintText t at) x = done x

-- StmtTyping: what has to be asked of a statement, and what stands behind it
abbrev pub stmt_types : In → Stmt → StmtTyping
stmt_types b = fold-Stmt StmtTyping (stmt_step b)

abbrev pub stmts_type : In → List Stmt → StmtTyping
stmts_type b ss = run_through (map (stmt_types b) ss)

-- ---- E23

-- whether some statement of a block stops it
abbrev pub some_stops : List Bool → Bool
some_stops [] = false
some_stops (b ∷ bs) = b || some_stops bs

-- `return` can't be passed, nor can a block with a statement that can't, nor an `if` with two such blocks; all else
-- can
abbrev pub stops_step : Stmt-F Bool → Bool
stops_step (Stmt-F.Block body) = some_stops body
stops_step (Stmt-F.Local fixed t n e) = false
stops_step (Stmt-F.Assign n e) = false
stops_step (Stmt-F.Set of n e) = false
stops_step (Stmt-F.Do e) = false
stops_step (Stmt-F.If e one other at) = some_stops one && some_stops other
stops_step (Stmt-F.While e body at) = false
stops_step (Stmt-F.Return e at) = true
stops_step (Stmt-F.Print e at) = false
stops_step (Stmt-F.PrintText t at) = false

abbrev pub stops : Stmt → Bool
stops = fold-Stmt Bool stops_step

-- a whole block
abbrev pub all_stop : List Stmt → Bool
all_stop ss = some_stops (map stops ss)

-- ---- a whole body

abbrev pub body_in : Body → Header → In
body_in b x = record { class = b.class; method = b.method; result = x.result }

abbrev pub at_start : Body → Header → Before
at_start b x = record { vars = x.vars; scope = scope_of (site_in b x.vars); next = suc (length x.vars) }

-- its statements; then E23 where it has a result and its end can be reached
abbrev pub body_with : Body → Header → Plan Nothing
body_with b x =
    then_do (stmts_type (body_in b x) b.method.body (at_start b x)) (λ y.
    wants (is_void x.result || all_stop b.method.body)
    (in_method rule.E23 (here (body_in b x) (at_start b x)) b.method.name.at) (done tt))

abbrev pub body_types : Body → Plan Nothing
body_types b = then_do (header_typed b) (body_with b)

-- ---- the bodies of a program, in source order

abbrev pub member_bodies : Member-F Asked Asked → Asked
member_bodies (Member-F.Inner d) R = d R
member_bodies (Member-F.Slot f) R = done tt
member_bodies (Member-F.Body m) R = body_types (record { class = R; method = m })

abbrev pub bodies_step : Decl-F Asked Asked → Asked
bodies_step d P = in_turn (map (asked_at (d.name.name ∷ P)) d.members)

unfoldable pub decl_bodies : Decl → Asked
decl_bodies = fold-Decl Asked Asked member_bodies bodies_step

-- all that is asked of the bodies of a program
abbrev pub body_plan : Program → Plan Nothing
body_plan p = in_turn (map (asked_at []) (map decl_bodies p.decls))

-- Example: with `final disp.Lit!\tag d` in scope, `d.tag = 7; print(d.tag);` is accepted, since the store drops the
-- mask. `if (c) { d.tag = 7; } print(d.tag);` is E19: behind the `if` d has the masks of either end. So is the same with
-- a `while`, behind which d has the masks before the loop.
