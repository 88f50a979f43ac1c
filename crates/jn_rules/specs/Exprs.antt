-- The typing of expressions: the type, and the scope with the fresh paths; or the first refusal.
use Rattle.std.specs.Prelude.{ℕ, suc, ◌+◌, List, [], ◌∷◌, ◌++◌, length, map, Bool, true, false, ◌&&◌, ◌||◌, cond, nat_eq, nat_lt, Option, Some, None}
use Rattle.jn_base.specs.declared.tree.Name.{Name}
use Rattle.jn_base.specs.declared.tree.Named.{Named}
use Rattle.jn_base.specs.declared.tree.Place.{Place}
use Rattle.jn_base.specs.declared.tree.Method.{Method}
use Rattle.jn_base.specs.declared.tree.Term.{Term}
use Rattle.jn_base.specs.declared.tree.Constraint.{Constraint}
use Rattle.jn_base.specs.declared.tree.Op.{Op}
use Rattle.jn_base.specs.declared.tree.Op.TheVariants as op
use Rattle.jn_base.specs.declared.tree.Node.{Node, para-Node}
use Rattle.jn_base.specs.declared.tree.Expr.{Expr, para-Expr}
use Rattle.jn_base.specs.declared.tree.Link.{Link, para-Link}
use Rattle.jn_base.specs.declared.tree.Suffix.{Suffix, para-Suffix}
use Rattle.jn_base.specs.declared.tree.Node.TheOpen.{Node-F, Expr-F, Link-F, Suffix-F}
use Rattle.jn_base.specs.declared.types.Anchor.{Anchor}
use Rattle.jn_base.specs.declared.types.Anchor.TheVariants.{Root, Up}
use Rattle.jn_base.specs.declared.types.Atom.{Atom as ShownAtom}
use Rattle.jn_base.specs.declared.types.Masks.{Masks}
use Rattle.jn_base.specs.declared.types.Ty.{Ty}
use Rattle.jn_base.specs.declared.types.Ty.TheVariants as ty
use Rattle.jn_base.specs.declared.types.ValKind.{ValKind}
use Rattle.jn_base.specs.declared.types.ValKind.TheVariants as kind
use Rattle.jn_base.specs.declared.names.Role.TheVariants as role
use Rattle.jn_base.specs.declared.names.Var.{Var}
use Rattle.jn_base.specs.declared.refusal.Refusal.{Refusal}
use Rattle.jn_base.specs.declared.refusal.Rule.{Rule}
use Rattle.jn_base.specs.declared.refusal.Rule.TheVariants as rule
use Rattle.jn_base.specs.Paths.{Path, shown}
use Rattle.jn_base.specs.Atoms.{Atom, atom, atom_of, atoms_in, shown_atom, first_at, no_masks}
use Rattle.jn_base.specs.Scopes.{Bind, Scope, bound_of, bound}
use Rattle.jn_base.specs.Resolve.{is_class, var_named}
use Rattle.jn_sem.specs.Normal.{swapped}
use Rattle.jn_sem.specs.NormalFunction.{subst_type, normal_type}
use Rattle.jn_sem.specs.Terms.{Site}
use Rattle.jn_sem.specs.Does.{Body}
use Rattle.jn_rules.specs.Plans.{FoundField, Target, target_type, Sharing, Holding, Refuted, OfTerm, OfView, OfConstraint, IsBelow, OfField, OfMethod, OfBody, OfConstructor, FirstMask, IsMasked, Grants, OfSharing, AtomMark, VarMark, MemberMark, KindMark, Plan, done, refuse, note, ask, then_do, wants, taken, found_or}
use Rattle.jn_rules.specs.Questions.{masks_of}
use Rattle.jn_rules.specs.Headers.{Header, header_typed}

-- ---- where an expression stands

-- the declaration that has the body, its method, and the variables in scope
pub record Here : Type 0 where
  pub class : Path
  pub method : Method
  pub vars : List Var

abbrev pub site_here : Here → Site
site_here h = record { class = h.class; method = h.method.name.name; vars = h.vars }

-- What an expression has: its type; its path, where it is a path expression or a `new`; and the scope with the fresh
-- paths. The present masks of a path are those of its type in the scope.
pub record Typed : Type 0 where
  pub ty : Ty
  pub path : Option ℕ
  pub scope : Scope

-- a value of the type, which is no path
abbrev pub plain : Ty → Scope → Typed
plain t s = record { ty = t; path = None; scope = s }

-- ---- what refusals show

-- the declaring path and the method
abbrev pub in_method : Rule → Here → Place → Refusal
in_method rule h at =
    record { rule = rule; at = at; class = Some (shown h.class); member = Some h.method.name.name; limit = None }

-- E18
abbrev pub mismatch : Here → Place → Refusal
mismatch h at = in_method rule.E18 h at

-- the declaring path and a name
abbrev pub of_name : Rule → Here → Place → Name → Refusal
of_name rule h at n = record { rule = rule; at = at; class = Some (shown h.class); member = Some n; limit = None }

-- the class of a receiver and a member, at the place of the member's name
abbrev pub of_class : Rule → Path → Named → Name → Refusal
of_class rule B at n = record { rule = rule; at = at.at; class = Some (shown B); member = Some n; limit = None }

-- the bound of the receiver's first atom, also where the member was found at a later one
abbrev pub first_bound : Typed → Path
first_bound x = first_at (bound_of x.scope) (atoms_in x.ty)

-- ---- marks

-- the kind of a value: null and objects are references, and a `void` call has none
abbrev pub kind_of : Ty → Option ValKind
kind_of ty.Int = Some kind.Int
kind_of ty.Bool = Some kind.Bool
kind_of ty.Null = Some kind.Reference
kind_of ty.Void = None
kind_of (ty.Class xs m) = Some kind.Reference

abbrev pub note_kind : {A : Type 0} → Option ValKind → Plan A → Plan A
note_kind None go = go
note_kind (Some k) go = note (KindMark k) go

-- what a form gives: the kind of its value is noted, where it has one
abbrev pub gives : Typed → Plan Typed
gives x = note_kind (kind_of x.ty) (done x)

-- ---- paths

-- how many fresh paths there are
abbrev pub fresh_paths : Scope → ℕ
fresh_paths [] = 0
fresh_paths (b ∷ s) = cond (nat_lt b.path 256) (fresh_paths s) (suc (fresh_paths s))

-- they are numbered from 256
abbrev pub next_path : Scope → ℕ
next_path s = 256 + fresh_paths s

abbrev pub bind : ℕ → Ty → Bind
bind q t = record { path = q; ty = t }

-- a path, and the scope in which it is bound
pub record Passing : Type 0 where
  pub path : ℕ
  pub scope : Scope

-- the path of an expression, else a fresh one with the type
abbrev pub path_or_fresh : Ty → Option ℕ → Scope → Passing
path_or_fresh t (Some q) s = record { path = q; scope = s }
path_or_fresh t None s = record { path = next_path s; scope = bind (next_path s) t ∷ s }

abbrev pub path_of : Ty → Typed → Passing
path_of t x = path_or_fresh t x.path x.scope

-- the present masks of a path
abbrev pub masks_at : Scope → ℕ → Masks
masks_at [] q = no_masks
masks_at (b ∷ s) q = cond (nat_eq q b.path) (masks_of b.ty) (masks_at s q)

-- the type of a path expression: Up(q, 0) with its present masks
abbrev pub path_type : Scope → ℕ → Ty
path_type s q = ty.Class (shown_atom (atom (Up q 0) [] []) ∷ []) (masks_at s q)

-- a path expression
abbrev pub of_path : ℕ → Scope → Typed
of_path q s = record { ty = path_type s q; path = Some q; scope = s }

-- ---- typing

-- an expression is typed in a scope
abbrev pub Typing : Type 0
Typing = Scope → Plan Typed

abbrev pub is_int : Ty → Bool
is_int ty.Int = true
is_int ty.Bool = false
is_int ty.Null = false
is_int ty.Void = false
is_int (ty.Class xs m) = false

abbrev pub is_bool : Ty → Bool
is_bool ty.Bool = true
is_bool ty.Int = false
is_bool ty.Null = false
is_bool ty.Void = false
is_bool (ty.Class xs m) = false

abbrev pub is_null_type : Ty → Bool
is_null_type ty.Null = true
is_null_type ty.Int = false
is_null_type ty.Bool = false
is_null_type ty.Void = false
is_null_type (ty.Class xs m) = false

-- a class type or the null type
abbrev pub is_object : Ty → Bool
is_object t = is_class t || is_null_type t

-- ---- variables

-- A `final` variable of class type is a path; another one has its declared type.
abbrev pub var_typed : Var → Scope → Typed
var_typed v s = cond (v.fixed && is_class v.ty) (of_path v.path s) (plain v.ty s)

-- E06 where the name is not in scope
abbrev pub var_gives : Here → Place → Name → Scope → Option Var → Plan Typed
var_gives h at x s None = refuse (of_name rule.E06 h at x)
var_gives h at x s (Some v) = note (VarMark v.path) (gives (var_typed v s))

-- ---- operators

-- what an operator asks of each operand (else E18 at the operand), of both (else E18 at the operator), and what it
-- gives
abbrev pub takes : Op → Ty → Bool
takes op.And t = is_bool t
takes op.Or t = is_bool t
takes op.Eq t = true
takes op.Ne t = true
takes o t = is_int t

-- both int, both boolean, or each a class type or null
abbrev pub comparable : Ty → Ty → Bool
comparable t u = (is_int t && is_int u) || ((is_bool t && is_bool u) || (is_object t && is_object u))

abbrev pub takes_both : Op → Ty → Ty → Bool
takes_both op.Eq t u = comparable t u
takes_both op.Ne t u = comparable t u
takes_both o t u = true

abbrev pub operator_type : Op → Ty
operator_type op.Add = ty.Int
operator_type op.Sub = ty.Int
operator_type op.Mul = ty.Int
operator_type op.Div = ty.Int
operator_type op.Rem = ty.Int
operator_type o = ty.Bool

-- The operators of a chain, one after the other, each with the value so far on its left. Each operand gives its own
-- refusals and then its E18 before the next one is looked at; `at` is the place of the first operand.
abbrev pub links_typed : Here → Place → Typed → List (Link × Typing) → Plan Typed
links_typed h at x [] = done x
links_typed h at x (l ∷ ls) =
    wants (takes l.0.op x.ty) (mismatch h at)
    (then_do (l.1 x.scope) (λ y. wants (takes l.0.op y.ty) (mismatch h l.0.right.at)
    (wants (takes_both l.0.op x.ty y.ty) (mismatch h l.0.at)
    (then_do (gives (plain (operator_type l.0.op) y.scope)) (λ z. links_typed h at z ls)))))

-- ---- calls

-- E17 where there are not as many arguments as parameters
abbrev pub as_many : Header → List (Expr × Typing) → Bool
as_many c es = nat_eq (length c.vars) (length es)

-- the paths of the receiver and of the arguments so far, and the scope
pub record Passed : Type 0 where
  pub paths : List ℕ
  pub scope : Scope

abbrev pub var_path : Var → ℕ
var_path v = v.path

-- `this` and the parameters, in whose place the receiver's path and those of the arguments are put
abbrev pub replaced_paths : List Var → List ℕ
replaced_paths vars = 0 ∷ map var_path vars

-- a type of a header, with the paths put that are known
abbrev pub put_in : Scope → (from to : List ℕ) → Ty → Ty
put_in s from to t = subst_type s (swapped from to) t

-- a null argument's fresh path has the parameter's type
abbrev pub type_passed : Ty → Ty → Ty
type_passed t want = cond (is_null_type t) want t

-- Each argument in turn: its own refusals, then E18 if it is not below the parameter's type. It is passed as its path,
-- or as a fresh one. `from` are `this` and all parameters, `to` the paths that are known.
abbrev pub arg_passed : List ℕ → List ℕ → Var → Typed → Passing
arg_passed from to x t = path_of (type_passed t.ty (put_in t.scope from to x.ty)) t

abbrev pub args_typed : Here → (from : List ℕ) → (params : List Var) → List (Expr × Typing) → (to : List ℕ)
    → Scope → Plan Passed
args_typed h from (x ∷ xs) (a ∷ es) to s =
    then_do (a.1 s) (λ t. ask (IsBelow t.scope t.ty (put_in t.scope from to x.ty)) (λ ok. wants ok (mismatch h a.0.at)
    (args_typed h from xs es (to ++ (arg_passed from to x t).path ∷ []) (arg_passed from to x t).scope)))
args_typed h from [] es to s = done (record { paths = to; scope = s })
args_typed h from (x ∷ xs) [] to s = done (record { paths = to; scope = s })

-- all arguments of a call, behind the receiver's path
abbrev pub call_typed : Here → Header → List (Expr × Typing) → Passing → Plan Passed
call_typed h c es r = args_typed h (replaced_paths c.vars) c.vars es (r.path ∷ []) r.scope

-- the result, with the receiver's path for `this` and the arguments' paths for the parameters
abbrev pub result_gives : Header → Passed → Plan Typed
result_gives c x = gives (plain (put_in x.scope (replaced_paths c.vars) x.paths c.result) x.scope)

-- ---- what stands behind a dot

-- The field's type with `this` replaced by the receiver's path, normal; E19 where the field is masked.
abbrev pub field_type : FoundField → Passing → Ty
field_type c n = put_in n.scope (0 ∷ []) (n.path ∷ []) c.ty

abbrev pub field_gives : Named → Typed → FoundField → Plan Typed
field_gives f x c =
    ask (IsMasked (masks_of x.ty) f.name) (λ hidden. cond hidden (refuse (of_class rule.E19 (first_bound x) f f.name))
    (note (MemberMark c.class) (gives (plain (field_type c (path_of x.ty x)) (path_of x.ty x).scope))))

-- E19 at a masked receiver, with its first mask by name
abbrev pub unmasked : Typed → Named → Plan Typed → Option Name → Plan Typed
unmasked x m go (Some f) = refuse (of_class rule.E19 (first_bound x) m f)
unmasked x m go None = go

-- the body b is called, with its header: E17; then the receiver's path, fresh where it has none; then the arguments
abbrev pub method_with : Here → Named → List (Expr × Typing) → Typed → Body → Header → Plan Typed
method_with h m es x b c =
    wants (as_many c es) (in_method rule.E17 h m.at)
    (note (MemberMark b.class) (then_do (call_typed h c es (path_of x.ty x)) (result_gives c)))

abbrev pub method_gives : Here → Named → List (Expr × Typing) → Typed → Body → Plan Typed
method_gives h m es x b =
    ask (FirstMask (masks_of x.ty)) (unmasked x m (then_do (header_typed b) (method_with h m es x b)))

-- by the place of the receiver, and the receiver
abbrev pub SuffixTyping : Type 0
SuffixTyping = Place → Typed → Plan Typed

-- `.f` and `.m(..)`: E18 at a receiver of no class type, E16 where it has no such member
abbrev pub suffix_typed : Here → Named → Option (List (Expr × Typing)) → SuffixTyping
suffix_typed h f None at x =
    wants (is_class x.ty) (mismatch h at)
    (ask (OfField x.scope x.ty f.name) (found_or (of_class rule.E16 (first_bound x) f f.name) (field_gives f x)))
suffix_typed h m (Some es) at x =
    wants (is_class x.ty) (mismatch h at)
    (ask (OfMethod x.scope x.ty m.name)
    (found_or (of_class rule.E16 (first_bound x) m m.name) (method_gives h m es x)))

-- the first receiver stands at a place of its own, each later one where the whole does
abbrev pub suffixes_typed : Place → Place → List (Suffix × SuffixTyping) → Typed → Plan Typed
suffixes_typed whole at [] x = done x
suffixes_typed whole at (s ∷ ss) x = then_do (s.1 at x) (suffixes_typed whole whole ss)

-- ---- new

-- the bound exact: all names become exact
abbrev pub made_exact : Atom → Ty
made_exact x = ty.Class (shown_atom (atom x.anchor (x.names ++ x.exact) []) ∷ []) no_masks

-- what `new` has: its type, and its fresh path
abbrev pub of_new : Ty → Passing → Scope → Typed
of_new t n s = record { ty = t; path = Some n.path; scope = s }

-- its fresh path, which comes after E17 and before the arguments
abbrev pub fresh_with : Ty → Scope → Passing
fresh_with t s = path_or_fresh t None s

-- a missing constructor has no parameters
abbrev pub made_without : Here → Place → List (Expr × Typing) → Scope → Ty → Plan Typed
made_without h at es s t =
    wants (nat_eq (length es) 0) (in_method rule.E17 h at) (gives (of_new t (fresh_with t s) (fresh_with t s).scope))

-- E17 against the constructor, and then its arguments; the fresh path stands for `this` in its types
abbrev pub made_by : Here → Place → List (Expr × Typing) → Scope → Ty → Body → Header → Plan Typed
made_by h at es s t b c =
    wants (as_many c es) (in_method rule.E17 h at)
    (note (MemberMark b.class)
    (then_do (call_typed h c es (fresh_with t s)) (λ x. gives (of_new t (fresh_with t s) x.scope))))

-- by the constructor, where there is one
abbrev pub made_with : Here → Place → List (Expr × Typing) → Scope → Ty → Option Body → Plan Typed
made_with h at es s t None = made_without h at es s t
made_with h at es s t (Some b) = then_do (header_typed b) (made_by h at es s t b)

-- `new T(..)`, where T stands for the atom a: the constructor is that of its bound, the type is its bound exact
abbrev pub new_typed : Here → Place → List (Expr × Typing) → Scope → ShownAtom → Plan Typed
new_typed h at es s a =
    note (AtomMark a)
    (ask (OfConstructor (bound s (atom_of a))) (made_with h at es s (normal_type s (made_exact (atom_of a)))))

-- ---- what a header grants

-- whether one of the constraints grants a view change from the type to the target
abbrev pub one_grants : Here → List Constraint → Scope → Ty → Target → Plan Bool
one_grants h [] s t u = done false
one_grants h (c ∷ cs) s t u =
    ask (OfConstraint h.class h.method.name.name c) (taken (λ x.
    ask (Grants s x t u) (λ ok. cond ok (done true) (one_grants h cs s t u))))

-- whether the header of the method grants it
abbrev pub header_grants : Here → Scope → Ty → Target → Plan Bool
header_grants h s t u = one_grants h h.method.sharing s t u

-- ---- super

-- the type of one atom
abbrev pub of_atom : ShownAtom → Ty
of_atom a = ty.Class (a ∷ []) no_masks

-- E25 at the first constraint of the called body that the caller's header doesn't grant, with its left side for the
-- type and its right side for the target
abbrev pub constraints_granted : Here → Body → Named → Scope → List Constraint → Plan Typed → Plan Typed
constraints_granted h b m s [] go = go
constraints_granted h b m s (k ∷ ks) go =
    ask (OfConstraint b.class b.method.name.name k) (taken (λ x.
    then_do (header_grants h s (normal_type s (target_type x.from)) x.to) (λ ok.
    wants ok (of_name rule.E25 h m.at m.name)
    (constraints_granted h b m s ks go))))

-- E17, the arguments, E25, and then the result. The receiver's path is `this`.
abbrev pub super_with : Here → Named → List (Expr × Typing) → Scope → Body → Header → Plan Typed
super_with h m es s b c =
    wants (as_many c es) (in_method rule.E17 h m.at)
    (note (MemberMark b.class)
    (then_do (call_typed h c es (record { path = 0; scope = s })) (λ x.
    constraints_granted h b m x.scope b.method.sharing (result_gives c x))))

-- the body b is called, with its header
abbrev pub super_gives : Here → Named → List (Expr × Typing) → Scope → Body → Plan Typed
super_gives h m es s b = then_do (header_typed b) (super_with h m es s b)

-- E18 at the term where `this` is not below it; E16 where the term's bound, in which the member is looked up, has none
abbrev pub super_typed : Here → Term → Named → List (Expr × Typing) → Scope → ShownAtom → Plan Typed
super_typed h t m es s a =
    note (AtomMark a)
    (ask (IsBelow s (path_type s 0) (normal_type s (of_atom a))) (λ ok. wants ok (mismatch h t.at)
    (ask (OfBody (bound s (atom_of a)) m.name)
    (found_or (of_class rule.E16 (bound s (atom_of a)) m m.name) (super_gives h m es s)))))

-- ---- view

-- E20 shows what refutes the sharing, where that was asked; else nothing
abbrev pub no_view : Place → Refusal
no_view at = record { rule = rule.E20; at = at; class = None; member = None; limit = None }

abbrev pub not_shared : Place → Path → Option Name → Refusal
not_shared at U f = record { rule = rule.E20; at = at; class = Some (shown U); member = f; limit = None }

abbrev pub shared_or : Place → Typed → Sharing → Plan Typed
shared_or at y Holding = gives y
shared_or at y (Refuted U f) = refuse (not_shared at U f)

-- a target whose anchor is Root asks for a sharing of all classes of the type; another one is refused
abbrev pub by_sharing : Place → Scope → Ty → Target → Typed → Anchor → Plan Typed
by_sharing at s t u y Root = ask (OfSharing s t u) (shared_or at y)
by_sharing at s t u y (Up q k) = refuse (no_view at)

-- a granted view has the target's type
abbrev pub viewed_as : Target → Scope → Typed
viewed_as u s = plain (normal_type s (target_type u)) s

-- A view change is granted where e is null, or by the header, or by sharing; else E20.
abbrev pub viewed : Here → Place → Target → Typed → Plan Typed
viewed h at u x =
    cond (is_null_type x.ty) (gives (viewed_as u x.scope))
    (then_do (header_grants h x.scope x.ty u) (λ ok. cond ok (gives (viewed_as u x.scope))
    (by_sharing at x.scope x.ty u (viewed_as u x.scope) u.atom.anchor)))

-- `(view T) e`, where T stands for u: e, E18 where it is of no class type and not null, E20
abbrev pub view_typed : Here → Place → Expr × Typing → Scope → Target → Plan Typed
view_typed h at e s u =
    note (AtomMark u.atom) (then_do (e.1 s) (λ x. wants (is_object x.ty) (mismatch h e.0.at) (viewed h at u x)))

-- ---- all forms

abbrev pub NodeTyping : Type 0
NodeTyping = Place → Typing

-- each form by what is had of its parts
abbrev pub node_step : Here → Node-F (Node × NodeTyping) (Expr × Typing) (Link × Typing) (Suffix × SuffixTyping)
    → NodeTyping
node_step h (Node-F.Int z) at s = gives (plain ty.Int s)
node_step h (Node-F.Bool b) at s = gives (plain ty.Bool s)
node_step h Node-F.Null at s = gives (plain ty.Null s)
node_step h Node-F.This at s = gives (of_path 0 s)
node_step h (Node-F.Var x) at s = var_gives h at x s (var_named (record { list = h.vars }) x)
node_step h (Node-F.New t es) at s = ask (OfTerm role.New (site_here h) t) (taken (new_typed h at es s))
node_step h (Node-F.Super t m es) at s = ask (OfTerm role.Super (site_here h) t) (taken (super_typed h t m es s))
node_step h (Node-F.Post e ss) at s = then_do (e.1 s) (suffixes_typed at e.0.at ss)
node_step h (Node-F.Not e) at s =
    then_do (e.1 s) (λ x. wants (is_bool x.ty) (mismatch h e.0.at) (gives (plain ty.Bool x.scope)))
node_step h (Node-F.Neg e) at s =
    then_do (e.1 s) (λ x. wants (is_int x.ty) (mismatch h e.0.at) (gives (plain ty.Int x.scope)))
node_step h (Node-F.View v e) at s = ask (OfView (site_here h) v) (taken (view_typed h at e s))
node_step h (Node-F.Chain level e ls) at s = then_do (e.1 s) (λ x. links_typed h e.0.at x ls)

abbrev pub expr_step : Expr-F (Node × NodeTyping) (Expr × Typing) (Link × Typing) (Suffix × SuffixTyping) → Typing
expr_step e = e.node.1 e.at

abbrev pub link_step : Link-F (Node × NodeTyping) (Expr × Typing) (Link × Typing) (Suffix × SuffixTyping) → Typing
link_step l = l.right.1

abbrev pub suffix_step : Here
    → Suffix-F (Node × NodeTyping) (Expr × Typing) (Link × Typing) (Suffix × SuffixTyping) → SuffixTyping
suffix_step h s = suffix_typed h s.name s.args

abbrev pub node_types : Here → Node → NodeTyping
node_types h = para-Node NodeTyping Typing Typing SuffixTyping (node_step h) expr_step link_step (suffix_step h)

abbrev pub link_types : Here → Link → Typing
link_types h = para-Link NodeTyping Typing Typing SuffixTyping (node_step h) expr_step link_step (suffix_step h)

abbrev pub suffix_types : Here → Suffix → SuffixTyping
suffix_types h = para-Suffix NodeTyping Typing Typing SuffixTyping (node_step h) expr_step link_step (suffix_step h)

-- ExprTyping: what has to be asked of an expression in a scope, in order, and what it has then
abbrev pub expr_types : Here → Expr → Typing
expr_types h = para-Expr NodeTyping Typing Typing SuffixTyping (node_step h) expr_step link_step (suffix_step h)

-- Examples, in a body of base.Make with `final base.Exp p` (path 1) and `base.Exp q` (path 2, no path expression):
-- `p` has the type Up(p, 0), and `q` has base.Exp. `new Lit(5)` has the atom of the anchor Up(this, 1) with the exact
-- name Lit, and the path 256 where there is no fresh path yet. In `q.eval()` the receiver gets a fresh path, in
-- `p.eval()` it has its own. `1 + true` is refused at `true`, `true + 1` there too, and `1 == true` at the operator
-- (jn_rule_rows).
