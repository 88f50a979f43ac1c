-- What is known at a place, and what an act takes of it and gives.
use Rattle.std.specs.Prelude.{length, ◌≡◌, ◌<◌, ◌≤◌, ℕ, suc, List, [], ◌∷◌, ◌++◌, Bool, true, false, ◌&&◌, not, cond, Option, Some, None}
use Rattle.jn_base.specs.declared.tree.Name.{Name}
use Rattle.jn_base.specs.declared.tree.TypeTerm.{TypeTerm}
use Rattle.jn_base.specs.declared.tree.Program.{Program}
use Rattle.jn_base.specs.declared.types.Ty.{Ty}
use Rattle.jn_base.specs.declared.types.Ty.TheVariants as ty
use Rattle.jn_base.specs.declared.types.Masks.{Masks}
use Rattle.jn_base.specs.declared.names.Var.{Var}
use Rattle.jn_base.specs.Atoms.{Among, HasMask, MasksOf}
use Rattle.jn_base.specs.Scopes.{Bind, Scope, Binds, bound}
use Rattle.jn_base.specs.Fits.{Anchored, TypeFits}
use Rattle.jn_base.specs.declared.tree.Constraint.{Constraint}
use Rattle.jn_base.specs.ResolveTypes.{mask_names}
use Rattle.jn_base.specs.Resolve.{is_class, var_named}
use Rattle.jn_sem.specs.Normal.{swapped}
use Rattle.jn_base.specs.declared.tree.ViewTerm.{ViewTerm}
use Rattle.jn_base.specs.declared.types.Anchor.TheVariants.{Root, Up}
use Rattle.jn_base.specs.Atoms.{Atom, atoms_in, atom_of}
use Rattle.jn_sem.specs.Terms.{ViewIs}
use Rattle.jn_rules.specs.Questions.{SharingGives, KeptMask, ConstraintGives, header_site}
use Rattle.jn_rules.specs.Plans.{Target, Pledge, target_type, Holding}
use Rattle.jn_sem.specs.NormalFunction.{subst_type, normal_type}
use Rattle.jn_sem.specs.Values.{Value, Number, Truth, Null, Masked}
use Rattle.jn_sem.specs.Below.{Below}
use Rattle.jn_sem.specs.Terms.{TypeIs, TermIs, SuperBound}
use Rattle.jn_base.specs.Paths.{Path}
use Rattle.jn_base.specs.declared.types.Atom.{Atom as ShownAtom}
use Rattle.jn_sem.specs.Sharing.{IsClass}
use Rattle.jn_base.specs.declared.tree.Term.{Term}
use Rattle.jn_base.specs.declared.names.Role.TheVariants as role
use Rattle.jn_sem.specs.Acts.{Act, Push, Read, This, Invert, Negate, Operate, Get, Call, Make, Super, Bind as BindAct, Assign, View, Put, Print, PrintText}
use Rattle.jn_sem.specs.Does.{Body, IsConstructorBody, var}
use Rattle.jn_rules.specs.Plans.{FoundField}
use Rattle.jn_rules.specs.Questions.{IsFoundField, masks_of}
use Rattle.jn_rules.specs.Exprs.{Here, bind, masks_at, path_type, replaced_paths, takes, takes_both, operator_type, made_exact, of_atom}
use Rattle.jn_base.specs.declared.tree.Op.{Op}
use Rattle.jn_base.specs.declared.tree.Op.TheVariants as op
use Rattle.jn_base.specs.declared.tree.Text.{Text}
use Rattle.std.specs.Prelude.{slice_get, Contains, Ok}
use Rattle.jn_sem.specs.Terms.{Site}
use Rattle.jn_laws.specs.LawsOfWritten.{HeaderPaths}
use Rattle.jn_rules.specs.Stmts.{In, with_masks, is_void}
use Rattle.jn_sound.specs.KnownScopes.{here_in}
use Rattle.jn_sound.specs.Callees.{Callee, IsCallee, IsCalled, header_of}
use Rattle.jn_rule_laws.specs.LawsOfHeaders.{IsHeader, GrantedBy}

-- an operand that is had: its type, and its path, where it is a path expression or has a fresh path
pub record Opd : Type 0 where
  pub ty : Ty
  pub path : Option ℕ

abbrev pub opd : Ty → Option ℕ → Opd
opd t q = record { ty = t; path = q }

-- the type of a literal
pub data IsLiteral : Value → Ty → Type 0 where
  number : {z : _} → IsLiteral (Number z) ty.Int
  truth : {b : Bool} → IsLiteral (Truth b) ty.Bool
  null : IsLiteral Null ty.Null

-- a variable as an operand
abbrev pub opd_of : Scope → Var → Opd
opd_of s v = cond (v.fixed && is_class v.ty) (opd (path_type s v.path) (Some v.path)) (opd v.ty None)

-- the n latest operands, the earliest first and before those already taken, with those before them (as the meaning
-- takes values)
abbrev pub opds_of : ℕ → List Opd → List Opd → Option (List Opd × List Opd)
opds_of ℕ.zero taken ops = Some (taken, ops)
opds_of (suc n) taken [] = None
opds_of (suc n) taken (o ∷ ops) = opds_of n (o ∷ taken) ops

-- The arguments fit the parameters: each has its parameter's type, with the paths of the receiver and of all
-- arguments put for `this` and the parameters, and a path.
pub data ArgsFit (s : Scope) (from to : List ℕ) : List Var → List Opd → List ℕ → Type 0 where
  none : ArgsFit s from to [] [] []
  one : {x : Var} {xs : List Var} {o : Opd} {os : List Opd} {q : ℕ} {qs : List ℕ}
      → o.ty ≡ subst_type s (swapped from to) x.ty → o.path ≡ Some q
      → ArgsFit s from to xs os qs → ArgsFit s from to (x ∷ xs) (o ∷ os) (q ∷ qs)

-- the operands behind a call: a result that is void or isn't kept is none
abbrev pub with_result : Bool → Ty → List Opd → List Opd
with_result keeps t ops = cond (keeps && not (is_void t)) (opd t None ∷ ops) ops

-- ---- the index of a place (the variables in scope are the place's own)

-- The scope, with fresh paths and present masks; and the latest operands that something is known of, the latest first.
pub record Typing : Type 0 where
  pub scope : Scope
  pub ops : List Opd

abbrev pub typing : Scope → List Opd → Typing
typing s ops = record { scope = s; ops = ops }

-- ---- what becomes of it

-- WHERE NOTHING ACTS: an operand gets a fresh path (that of null has a class type), or is in a type above its own; or a
-- fresh path is bound that no value has, as those of the right operand of `&&` or `||` where the left one decides.
pub data Moves (p : Program) : Typing → Typing → Type 0 where
  same : {t : Typing} → Moves p t t
  named : {s : Scope} {ops : List Opd} {z : Typing} (t u : Ty) (q : ℕ) → 256 ≤ q → (Binds s q → ⊥) → TypeFits s u
      → Below p s t u → Moves p (typing (bind q u ∷ s) (opd t (Some q) ∷ ops)) z → Moves p
      (typing s (opd t None ∷ ops)) z
  wider : {s : Scope} {ops : List Opd} {z : Typing} (t u : Ty) (q : Option ℕ) → Below p s t u → TypeFits s u
      → Moves p (typing s (opd u q ∷ ops)) z → Moves p (typing s (opd t q ∷ ops)) z
  unseen : {s : Scope} {ops : List Opd} {z : Typing} (u : Ty) (q : ℕ) → 256 ≤ q → (Binds s q → ⊥) → TypeFits s u
      → Moves p (typing (bind q u ∷ s) ops) z → Moves p (typing s ops) z

abbrev pub site_of_body : In → List Var → Site
site_of_body b vs = record { class = b.class; method = b.method.name.name; vars = vs }

-- what is in scope behind a local
abbrev pub local_var : Bool → Name → ℕ → Ty → Var
local_var fixed x path t = var x path fixed t

-- `&&` and `||` are no operators of this kind
abbrev pub decides : Op → Bool
decides op.And = true
decides op.Or = true
decides o = false

-- `this` and the variables have a path each
abbrev pub OwnPaths : List Var → Type 0
OwnPaths [] = Unit {0}
OwnPaths (v ∷ vs) = OwnPaths vs × ((u : Var) → Among vs u → u.path ≡ v.path → ⊥) × (v.path ≡ 0 → ⊥)

-- A variable that may be assigned: it isn't `final`, it is in scope with the type of its declaration, and no type of
-- the scope mentions it.
pub record Assignable (vs : List Var) (s : Scope) (v : Var) : Type 0 where
  pub not_final : v.fixed ≡ false
  pub paths : HeaderPaths vs v.ty
  pub among : Among s (bind v.path v.ty)
  pub unmentioned : (b : Bind) (x : Atom) (q k : ℕ) → Among s b → Among (atoms_in b.ty) x → x.anchor ≡ Up q k
      → q ≡ v.path → ⊥

-- What `new T` makes, where T stands for the atom a: a class below its bound, which is a class too. Where the bound
-- has a constructor, it has no parameters.
pub record NewClass (p : Program) (vs : List Var) (s : Scope) (a : Atom) : Type 0 where
  -- it hangs on no path, or on `this` or a `final` variable of class type
  pub paths : HeaderPaths vs (made_exact a)
  pub class : IsClass p (bound s a)
  pub no_params : (b : Body) → IsConstructorBody p (bound s a) b → b.method.params ≡ []

-- a fresh path, which no operand of these has
pub record Unused (q : ℕ) (ops : List Opd) : Type 0 where
  pub fresh : 256 ≤ q
  pub paths : (o : Opd) → Among ops o → o.path ≡ Some q → ⊥

-- What `new T(..)` makes and calls, where T stands for the atom a: a class below its bound, by a constructor with the
-- header of c, which is the bound's.
pub record NewBy (p : Program) (vs : List Var) (s : Scope) (a : Atom) (c : Callee) : Type 0 where
  pub paths : HeaderPaths vs (made_exact a)
  pub class : IsClass p (bound s a)
  pub body : IsConstructorBody p (bound s a) c.body
  pub header : IsHeader p c.body (header_of c)
  pub no_result : c.result ≡ ty.Void

-- The target of a view in a scope that it fits: it hangs on no path, or on `this` or a `final` variable of class type.
pub record TargetThere (p : Program) (b : In) (vs : List Var) (s : Scope) (term : ViewTerm) (x : Target) : Type 0 where
  pub is : ViewIs p (site_of_body b vs) term (atom_of x.atom)
  pub paths : HeaderPaths vs (target_type x)
  pub anchored : Anchored s x.atom.anchor
  pub fits : TypeFits s (normal_type s (target_type x))

-- A constraint of the called body that the header of the caller grants, with its left side for the type and its right
-- side for the target.
pub record SuperGranted (p : Program) (h : Here) (s : Scope) (b : Body) (k : Constraint) : Type 0 where
  pub pledge : Pledge
  pub is : ConstraintGives p (header_site b.class b.method.name.name) k (Ok pledge)
  pub granted : GrantedBy p h s (normal_type s (target_type pledge.from)) pledge.to

-- The term of `super` stands for the atom a with the bound B, a class; and `this` is below its type.
pub record SuperTerm (p : Program) (b : In) (vs : List Var) (s : Scope) (term : Term) (a : ShownAtom)
    (B : Path) : Type 0 where
  pub is : SuperBound p (site_of_body b vs) term B
  pub at : B ≡ bound s (atom_of a)
  pub class : IsClass p B
  pub paths : HeaderPaths vs (of_atom a)
  pub below : Below p s (path_type s 0) (normal_type s (of_atom a))

-- an operator that takes both operands and gives a value of its type
pub record Operates (o : Op) (t u : Ty) : Type 0 where
  pub left : takes o t ≡ true
  pub right : takes o u ≡ true
  pub both : takes_both o t u ≡ true
  pub acts : decides o ≡ false

-- WHAT AN ACT TAKES AND GIVES, in the body b with the variables vs in scope: one rule for each act that goes on
-- behind itself.
pub data Takes (p : Program) (b : In) (vs : List Var) : Act → Typing → List Var → Typing → Type 0 where
  push : {s : Scope} {ops : List Opd} (v : Value) (t : Ty) → IsLiteral v t
      → Takes p b vs (Push v) (typing s ops) vs (typing s (opd t None ∷ ops))
  this : {s : Scope} {ops : List Opd} → TypeFits s (path_type s 0)
      → Takes p b vs This (typing s ops) vs (typing s (opd (path_type s 0) (Some 0) ∷ ops))
  -- a path, or a value of its declared type
  read : {s : Scope} {ops : List Opd} (x : Name) (v : Var) → var_named (record { list = vs }) x ≡ Some v
      → TypeFits s (opd_of s v).ty
      → ((v.fixed && is_class v.ty) ≡ false → Among s (bind v.path v.ty)) → Takes p b vs (Read x) (typing s ops) vs
      (typing s (opd_of s v ∷ ops))
  invert : {s : Scope} {ops : List Opd} (q : Option ℕ)
      → Takes p b vs Invert (typing s (opd ty.Bool q ∷ ops)) vs (typing s (opd ty.Bool None ∷ ops))
  negate : {s : Scope} {ops : List Opd} (q : Option ℕ)
      → Takes p b vs Negate (typing s (opd ty.Int q ∷ ops)) vs (typing s (opd ty.Int None ∷ ops))
  operate : {s : Scope} {ops : List Opd} (o : Op) (t u : Ty) (q r : Option ℕ) → Operates o t u
      → Takes p b vs (Operate o) (typing s (opd u r ∷ (opd t q ∷ ops))) vs (typing s (opd (operator_type o) None ∷ ops))
  get : {s : Scope} {ops : List Opd} (f : Name) (t : Ty) (q : ℕ) (c : FoundField)
      → IsFoundField p s t f c → (Masked (mask_names p) (masks_of t) f → ⊥)
      → TypeFits s (subst_type s (swapped (0 ∷ []) (q ∷ [])) c.ty)
      → Takes p b vs (Get f) (typing s (opd t (Some q) ∷ ops)) vs
      (typing s (opd (subst_type s (swapped (0 ∷ []) (q ∷ [])) c.ty) None ∷ ops))
  -- a result that is void is not kept
  call : {s : Scope} {before ops : List Opd} (m : Name) (count : ℕ) (keeps : Bool) (t : Ty) (q : ℕ) (qs : List ℕ)
      (args : List Opd) (c : Callee)
      → IsCalled p s t m c → ((f : Name) → Masked (mask_names p) (masks_of t) f → ⊥)
      → opds_of count [] before ≡ Some (args, opd t (Some q) ∷ ops) → ArgsFit s (replaced_paths c.vars)
      (q ∷ qs) c.vars args qs
      → (is_void c.result ≡ true → keeps ≡ false)
      → TypeFits s (subst_type s (swapped (replaced_paths c.vars) (q ∷ qs)) c.result)
      → Takes p b vs (Call m count keeps) (typing s before) vs
      (typing s (with_result keeps (subst_type s (swapped (replaced_paths c.vars) (q ∷ qs)) c.result) ops))
  -- a view change that the sharing of the whole program grants, to a target whose anchor is Root
  shared : {s : Scope} {ops : List Opd} (term : ViewTerm) (t : Ty) (x : Target) (q : Option ℕ)
      → is_class t ≡ true → x.atom.anchor ≡ Root
      → ViewIs p (site_of_body b vs) term (atom_of x.atom) → SharingGives p s t x Holding → TypeFits s
      (normal_type s (target_type x))
      → Takes p b vs (View term) (typing s (opd t q ∷ ops)) vs
      (typing s (opd (normal_type s (target_type x)) None ∷ ops))
  -- null may be viewed at any target (here one whose anchor is Root)
  null_view : {s : Scope} {ops : List Opd} (term : ViewTerm) (x : Target) (q : Option ℕ) → x.atom.anchor ≡ Root
      → ViewIs p (site_of_body b vs) term (atom_of x.atom) → TypeFits s (normal_type s (target_type x))
      → Takes p b vs (View term) (typing s (opd ty.Null q ∷ ops)) vs
      (typing s (opd (normal_type s (target_type x)) None ∷ ops))
  -- and at one that hangs on `this` or a `final` variable of class type
  null_on_path : {s : Scope} {ops : List Opd} (term : ViewTerm) (x : Target) (q : Option ℕ)
      → HeaderPaths vs (target_type x) → 0 < length (bound s (atom_of x.atom))
      → ViewIs p (site_of_body b vs) term (atom_of x.atom) → TypeFits s (normal_type s (target_type x))
      → Takes p b vs (View term) (typing s (opd ty.Null q ∷ ops)) vs
      (typing s (opd (normal_type s (target_type x)) None ∷ ops))
  -- a view change that a constraint in the method's header grants
  granted : {s : Scope} {ops : List Opd} (term : ViewTerm) (t : Ty) (x : Target) (q : Option ℕ)
      → is_class t ≡ true → TargetThere p b vs s term x → GrantedBy p (here_in b vs) s t x
      → Takes p b vs (View term) (typing s (opd t q ∷ ops)) vs
      (typing s (opd (normal_type s (target_type x)) None ∷ ops))
  -- a field gets a value of its type, masked or not; the masks stay
  put : {s : Scope} {ops : List Opd} (f : Name) (t : Ty) (q : ℕ) (r : Option ℕ) (c : FoundField)
      → IsFoundField p s t f c
      → Takes p b vs (Put f) (typing s
      (opd (subst_type s (swapped (0 ∷ []) (q ∷ [])) c.ty) r ∷ (opd t (Some q) ∷ ops))) vs (typing s ops)
  -- The same, and the field is no mask of the receiver's path any more. Nothing is known of operands behind.
  unmask : {s : Scope} {ops : List Opd} (f : Name) (t : Ty) (q : ℕ) (r : Option ℕ) (c : FoundField) (m : Masks)
      → IsFoundField p s t f c → MasksOf (HasMask (masks_at s q)) (masks_at s q)
      → MasksOf (KeptMask (mask_names p) (masks_at s q) f) m
      → Takes p b vs (Put f) (typing s
      (opd (subst_type s (swapped (0 ∷ []) (q ∷ [])) c.ty) r ∷ (opd t (Some q) ∷ ops))) vs
      (typing (with_masks s q m) [])
  -- a local, which is in scope behind its act
  local : {s : Scope} {ops : List Opd} (fixed : Bool) (term : TypeTerm) (x : Name) (path : ℕ) (t : Ty) (q : Option ℕ)
      → TypeIs p (site_of_body b vs) term t → path < 256 → (Binds s path → ⊥) → TypeFits s t → HeaderPaths vs t
      → Takes p b vs (BindAct fixed term x path) (typing s (opd t q ∷ ops)) (vs ++ local_var fixed x path t ∷ [])
      (typing (bind path t ∷ s) ops)
  -- A variable gets a value of its type. Nothing is known of operands behind.
  assign : {s : Scope} {ops : List Opd} (x : Name) (v : Var) (q : Option ℕ)
      → var_named (record { list = vs }) x ≡ Some v
      → Assignable vs s v → Takes p b vs (Assign x) (typing s (opd v.ty q ∷ ops)) vs (typing s [])
  -- a new object, which is kept or not
  make : {s : Scope} {ops : List Opd} (term : Term) (keeps : Bool) (a : Atom)
      → TermIs p role.New (site_of_body b vs) term a → NewClass p vs s a → TypeFits s (normal_type s (made_exact a))
      → Takes p b vs (Make term 0 keeps) (typing s ops) vs
      (typing s (cond keeps (opd (normal_type s (made_exact a)) None ∷ ops) ops))
  -- With arguments: the fresh path of the object stands for `this` in the types of the parameters.
  make_with : {s : Scope} {before ops : List Opd} (term : Term) (count : ℕ) (keeps : Bool) (a : Atom) (q : ℕ)
      (qs : List ℕ) (args : List Opd) (c : Callee)
      → TermIs p role.New (site_of_body b vs) term a → NewBy p vs s a c
      → Among s (bind q (normal_type s (made_exact a))) → Unused q before
      → opds_of count [] before ≡ Some (args, ops) → ArgsFit s (replaced_paths c.vars) (q ∷ qs) c.vars args qs
      → TypeFits s (normal_type s (made_exact a))
      → Takes p b vs (Make term count keeps) (typing s before) vs
      (typing s (cond keeps (opd (normal_type s (made_exact a)) (Some q) ∷ ops) ops))
  -- The least body at the bound of the term. The caller's header grants the constraints of its header.
  super : {s : Scope} {before ops : List Opd} (term : Term) (m : Name) (count : ℕ) (keeps : Bool) (qs : List ℕ)
      (args : List Opd) (c : Callee) (a : ShownAtom)
      → SuperTerm p b vs s term a c.bound → IsCallee p m c
      → ((k : Constraint) → Contains c.body.method.sharing k → SuperGranted p (here_in b vs) s c.body k)
      → opds_of count [] before ≡ Some (args, ops) → ArgsFit s (replaced_paths c.vars) (0 ∷ qs) c.vars args qs
      → (is_void c.result ≡ true → keeps ≡ false)
      → TypeFits s (subst_type s (swapped (replaced_paths c.vars) (0 ∷ qs)) c.result)
      → Takes p b vs (Super term m count keeps) (typing s before) vs
      (typing s (with_result keeps (subst_type s (swapped (replaced_paths c.vars) (0 ∷ qs)) c.result) ops))
  print_number : {s : Scope} {ops : List Opd} (q : Option ℕ)
      → Takes p b vs Print (typing s (opd ty.Int q ∷ ops)) vs (typing s ops)
  print_truth : {s : Scope} {ops : List Opd} (q : Option ℕ)
      → Takes p b vs Print (typing s (opd ty.Bool q ∷ ops)) vs (typing s ops)
  -- a text of the program
  print_text : {s : Scope} {ops : List Opd} (t : ℕ) (x : Text) → slice_get p.texts t ≡ Some x
      → Takes p b vs (PrintText t) (typing s ops) vs (typing s ops)
