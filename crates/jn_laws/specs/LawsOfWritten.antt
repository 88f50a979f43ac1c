-- What is known of a type that is written in a program, and of the variables that are in scope where it stands.
use Rattle.std.specs.Prelude.{◌≡◌, ◌<◌, ◌≤◌, ℕ, suc, List, [], ◌∷◌, ◌++◌, length, true, Some, Ok}
use Rattle.jn_base.specs.declared.tree.Name.{Name}
use Rattle.jn_base.specs.declared.tree.Param.{Param}
use Rattle.jn_base.specs.declared.tree.Term.{Term}
use Rattle.jn_base.specs.declared.tree.TypeTerm.{TypeTerm}
use Rattle.jn_base.specs.declared.tree.TypeTerm.TheVariants as type
use Rattle.jn_base.specs.declared.tree.ViewTerm.{ViewTerm}
use Rattle.jn_base.specs.declared.tree.Program.{Program}
use Rattle.jn_base.specs.declared.types.Anchor.TheVariants.{Root, Up}
use Rattle.jn_base.specs.declared.types.Ty.{Ty}
use Rattle.jn_base.specs.declared.types.Ty.TheVariants as ty
use Rattle.jn_base.specs.declared.names.Role.{Role}
use Rattle.jn_base.specs.declared.names.Role.TheVariants as role
use Rattle.jn_base.specs.declared.names.Var.{Var}
use Rattle.jn_base.specs.Paths.{Path}
use Rattle.jn_base.specs.Universe.{InUniverse}
use Rattle.jn_base.specs.Atoms.{Atom, atoms_in, Among}
use Rattle.jn_base.specs.Scopes.{Scope, bound, Binds}
use Rattle.jn_base.specs.Fits.{Anchored, TypeFits, BindsFit}
use Rattle.jn_base.specs.Resolve.{is_class, scope_at}
use Rattle.jn_base.specs.ResolveTypes.{mask_names, ResolveView}
use Rattle.jn_sem.specs.Holds.{target_family}
use Rattle.jn_sem.specs.LawsOfSlots.{HeadNamed}
use Rattle.jn_sem.specs.Terms.{Site, spot_at, vars_at, TypeIs, FieldTypeIs, TermIs}
use Rattle.jn_sem.specs.Does.{Body, AreParams}
use Rattle.jn_laws.specs.LawsOfViews.{OfThis}

-- ---- what each program has that is read from a source

-- a class type has a term, and where a term has a bracket, names stand before it
abbrev pub TypeWellFormed : TypeTerm → Type 0
TypeWellFormed type.Int = Unit {0}
TypeWellFormed type.Bool = Unit {0}
TypeWellFormed (type.Class ts ms) = (0 < length ts) × ((t : Term) → Among ts t → HeadNamed t.head)

-- no path of the universe has more than 255 names
abbrev pub Shallow : Program → Type 0
Shallow p = (R : Path) → InUniverse p R → length R ≤ 255

-- ---- what types may mention

-- a path that a type may mention where these variables are in scope: `this`, or a final one of class type
pub data HeaderPath (vars : List Var) (q : ℕ) : Type 0 where
  of_this : q ≡ 0 → HeaderPath vars q
  of_param : (x : Var) → Among vars x → x.path ≡ q → x.fixed ≡ true → is_class x.ty ≡ true → HeaderPath vars q

-- the type mentions such paths alone
abbrev pub HeaderPaths : List Var → Ty → Type 0
HeaderPaths vars t = (x : Atom) (q k : ℕ) → Among (atoms_in t) x → x.anchor ≡ Up q k → HeaderPath vars q

-- neither void nor the type of null
abbrev pub IsWritten : Ty → Type 0
IsWritten ty.Int = Unit {0}
IsWritten ty.Bool = Unit {0}
IsWritten (ty.Class xs m) = Unit {0}
IsWritten ty.Null = ⊥
IsWritten ty.Void = ⊥

-- ---- a place with variables in scope

abbrev pub site_with : Path → Name → List Var → Site
site_with Q m vars = record { class = Q; method = m; vars = vars }

-- `this` and the variables, with their types
abbrev pub scope_of : Site → Scope
scope_of at = scope_at (spot_at at role.Value) (vars_at at)

-- The scope fits; the bounds of the variables have a name; and their types mention `this` and final variables of class type.
pub record SiteFits (p : Program) (at : Site) : Type 0 where
  pub class : InUniverse p at.class
  pub binds : BindsFit (scope_of at)
  pub named : (v : Var) → Among at.vars v → (x : Atom) → Among (atoms_in v.ty) x → 0 < length (bound (scope_of at) x)
  pub paths : (v : Var) → Among at.vars v → HeaderPaths at.vars v.ty

-- and so it is of a type at the place
pub record TypeThere (at : Site) (t : Ty) : Type 0 where
  pub written : IsWritten t
  pub fits : TypeFits (scope_of at) t
  pub named : (x : Atom) → Among (atoms_in t) x → 0 < length (bound (scope_of at) x)
  pub paths : HeaderPaths at.vars t

-- ---- the laws

-- the roles of types and views; an atom of one has its bound in the universe
abbrev pub IsTypeRole : Role → Type 0
IsTypeRole role.Field = Unit {0}
IsTypeRole role.Value = Unit {0}
IsTypeRole role.From = Unit {0}
IsTypeRole role.To = Unit {0}
IsTypeRole role.View = Unit {0}
IsTypeRole role.New = ⊥
IsTypeRole role.Super = ⊥

pub record WrittenOf (p : Program) : Type 0 where
  -- a place without variables fits, and one with a variable more, whose type is as one that is written there
  pub no_variable : (Q : Path) (m : Name) → InUniverse p Q → SiteFits p (site_with Q m [])
  pub one_more : (at : Site) (x : Var) → SiteFits p at → TypeThere at x.ty → (Binds (scope_of at) x.path → ⊥)
      → SiteFits p (site_with at.class at.method (at.vars ++ x ∷ []))
  -- the type of a parameter, result or local, as it is written and in normal form
  pub of_value : (at : Site) (t : TypeTerm) (u : Ty) → SiteFits p at → TypeWellFormed t → TypeIs p at t u → TypeThere at u
  -- the type of a field, in which `this` is the only path
  pub of_field : (Q : Path) (f : Name) (t : TypeTerm) (u : Ty) → InUniverse p Q → TypeWellFormed t → FieldTypeIs p Q f t u
      → TypeThere (site_with Q f []) u
  pub of_field_bounds : (Q : Path) (f : Name) (t : TypeTerm) (u : Ty) (x : Atom) → InUniverse p Q → FieldTypeIs p Q f t u
      → Among (atoms_in u) x → InUniverse p (bound (scope_of (site_with Q f [])) x)
  -- a view's target, or a side of a constraint
  pub of_view : (r : Role) (at : Site) (t : ViewTerm) (u : Ty) → IsTypeRole r → SiteFits p at → HeadNamed t.term.head
      → ResolveView p (mask_names p) (spot_at at r) (vars_at at) t (Ok u) → TypeThere at u
  -- the term of `new` or `super`
  pub of_term : (r : Role) (at : Site) (t : Term) (x : Atom) → SiteFits p at → HeadNamed t.head → TermIs p r at t x → Anchored (scope_of at) x.anchor
  pub term_path : (r : Role) (at : Site) (t : Term) (x : Atom) (q k : ℕ) → TermIs p r at t x → x.anchor ≡ Up q k → HeaderPath at.vars q
  pub new_class : (at : Site) (t : Term) (x : Atom) → TermIs p role.New at t x → InUniverse p (bound (scope_of at) x)

abbrev pub WrittenTypes : Type 0
WrittenTypes = (p : Program) → Shallow p → WrittenOf p

-- Whatever the program, no type that is written is void or that of null; and its paths are `this` and final variables of class
-- type, where this is so of the variables in scope.
pub record KindsOf (p : Program) : Type 0 where
  pub of_value : (at : Site) (t : TypeTerm) (u : Ty) → TypeIs p at t u → IsWritten u
  pub of_field : (Q : Path) (f : Name) (t : TypeTerm) (u : Ty) → FieldTypeIs p Q f t u → IsWritten u
  pub paths : (at : Site) (t : TypeTerm) (u : Ty) → ((v : Var) → Among at.vars v → HeaderPaths at.vars v.ty) → TypeIs p at t u → HeaderPaths at.vars u

abbrev pub WrittenKinds : Type 0
WrittenKinds = (p : Program) → KindsOf p

-- the two sides of a constraint
abbrev pub IsSide : Role → Type 0
IsSide role.From = Unit {0}
IsSide role.To = Unit {0}
IsSide role.Field = ⊥
IsSide role.Value = ⊥
IsSide role.View = ⊥
IsSide role.New = ⊥
IsSide role.Super = ⊥

-- in field types and sharing constraints `this` alone is a path
pub record ThisAloneOf (p : Program) : Type 0 where
  pub in_field : (Q : Path) (f : Name) (t : TypeTerm) (u : Ty) (x : Atom) → FieldTypeIs p Q f t u → Among (atoms_in u) x → OfThis x.anchor
  pub in_constraint : (r : Role) (at : Site) (t : ViewTerm) (u : Ty) (x : Atom) → IsSide r
      → ResolveView p (mask_names p) (spot_at at r) (vars_at at) t (Ok u) → Among (atoms_in u) x → OfThis x.anchor

abbrev pub ThisAlone : Type 0
ThisAlone = (p : Program) → ThisAloneOf p

-- ---- targets

-- The target of a view, and the right side of a constraint, has a family where its anchor is Root.
pub record TargetsOf (p : Program) (at : Site) (t : ViewTerm) (u : Ty) (x : Atom) : Type 0 where
  pub of_view : ResolveView p (mask_names p) (spot_at at role.View) (vars_at at) t (Ok u) → Among (atoms_in u) x → x.anchor ≡ Root
      → (Y : Name) × (target_family x ≡ Some Y)
  pub of_side : ResolveView p (mask_names p) (spot_at at role.To) (vars_at at) t (Ok u) → Among (atoms_in u) x → x.anchor ≡ Root
      → (Y : Name) × (target_family x ≡ Some Y)

abbrev pub TargetsHaveFamilies : Type 0
TargetsHaveFamilies = (p : Program) (at : Site) (t : ViewTerm) (u : Ty) (x : Atom) → TargetsOf p at t u x

-- ---- parameters

-- The parameter x behind those in `done`: its path is the next number, and its type is as it is written where those are in scope.
pub record ParamThere (b : Body) (done : List Var) (x : Var) : Type 0 where
  pub path : x.path ≡ suc (length done)
  pub type : TypeThere (site_with b.class b.method.name.name done) x.ty

pub record ParamsOf (p : Program) (b : Body) (vars : List Var) : Type 0 where
  pub count : length vars ≡ length b.method.params
  pub each : (done rest : List Var) (x : Var) → vars ≡ done ++ x ∷ rest → ParamThere b done x
  pub fit : SiteFits p (site_with b.class b.method.name.name vars)

abbrev pub ParamsFit : Type 0
ParamsFit = (p : Program) (b : Body) (vars : List Var) → Shallow p → InUniverse p b.class
    → ((x : Param) → Among b.method.params x → TypeWellFormed x.ty) → AreParams p b vars → ParamsOf p b vars
