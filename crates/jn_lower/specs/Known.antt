-- The variables that a walk knows: those in scope, with their types in normal form, but for masks.
use Rattle.std.specs.Prelude.{◌≡◌, ◌++◌, ℕ, suc, List, [], ◌∷◌, length, map, reverse, Bool, Ok}
use Rattle.jn_base.specs.declared.tree.Name.{Name}
use Rattle.jn_base.specs.declared.tree.Param.{Param}
use Rattle.jn_base.specs.declared.tree.TypeTerm.{TypeTerm}
use Rattle.jn_base.specs.declared.tree.TypeTerm.TheVariants as type
use Rattle.jn_base.specs.declared.tree.Method.{Method}
use Rattle.jn_base.specs.declared.tree.Program.{Program}
use Rattle.jn_base.specs.declared.path.Path.{Path as ShownPath}
use Rattle.jn_base.specs.declared.names.Spot.{Spot}
use Rattle.jn_base.specs.declared.names.Var.{Var}
use Rattle.jn_base.specs.declared.names.Role.TheVariants as role
use Rattle.jn_base.specs.declared.types.Atom.{Atom as ShownAtom}
use Rattle.jn_base.specs.declared.types.Ty.{Ty}
use Rattle.jn_base.specs.declared.types.Ty.TheVariants as ty
use Rattle.jn_base.specs.Paths.{shown}
use Rattle.jn_base.specs.Atoms.{no_masks}
use Rattle.jn_base.specs.Scopes.{Scope}
use Rattle.jn_base.specs.ResolveTypes.{ResolveType}
use Rattle.jn_table.specs.declared.table.Table.{Table}
use Rattle.jn_table.specs.Tables.{IsFilled}
use Rattle.jn_names.specs.Scoped.{scope_from}
use Rattle.jn_sem.specs.NormalFunction.{normal_type}
use Rattle.jn_sem.specs.Does.{Body, var}
use Rattle.jn_rules.specs.Questions.{Gives}
use Rattle.jn_rules.specs.LawsOfPlans.{RepliesAreOne}
use Rattle.jn_rules.specs.Headers.{Header, params_typed, header_typed}
use Rattle.jn_rules.specs.Stmts.{remasked}

-- the scope of a body of the class with these variables
abbrev pub scope_in : ShownPath → List Var → Scope
scope_in class vs = scope_from (reverse class.names) vs

-- a type and a variable without masks
abbrev pub bare_type : Ty → Ty
bare_type t = remasked no_masks t

abbrev pub bare : Var → Var
bare v = record v { ty = bare_type v.ty }

-- the normal form of a type where these variables are in scope, without its masks
abbrev pub bare_form : ShownPath → List Var → Ty → Ty
bare_form class vs t = normal_type (scope_in class vs) (bare_type t)

-- the type that is written so, of which these are the atoms, without its masks
abbrev pub written_type : TypeTerm → List ShownAtom → Ty
written_type type.Int xs = ty.Int
written_type type.Bool xs = ty.Bool
written_type (type.Class ts ms) xs = ty.Class xs no_masks

-- where a type of the class's method stands
abbrev pub spot_of : ShownPath → Name → Spot
spot_of class owner = record { class = class; owner = owner; role = role.Value }

-- The parameter comes last, as the next path. No name of a mask is asked for, as masks are left out.
pub record ParamAdded (table : Table) (spot : Spot) (old new : List Var) (x : Param) : Type 0 where
  pub given : Ty
  pub resolved : (p : Program) → IsFilled p table → ResolveType p [] spot (record { list = old }) x.ty (Ok given)
  pub is : new ≡ old ++ var x.name.name (suc (length old)) x.fixed (bare_form spot.class old given) ∷ []

-- so are all of them, as those of a body whose types stand there
abbrev pub ParamsFound : Table → Spot → List Param → List Var → Type 0
ParamsFound table spot params vs =
    (p : Program) (b : Body) (vars : List Var) → IsFilled p table → RepliesAreOne p
    → spot ≡ spot_of (shown b.class) b.method.name.name → Gives p (params_typed b [] params) (Ok vars) → vs ≡ map bare vars

-- the parameters of the body that has this method and is declared by this class
abbrev pub AreParamsOf : Table → ShownPath → Method → List Var → Type 0
AreParamsOf table class m vs =
    (p : Program) (b : Body) (k : Header) → IsFilled p table → RepliesAreOne p → class ≡ shown b.class → b.method ≡ m
    → Gives p (header_typed b) (Ok k) → vs ≡ map bare k.vars

-- the local comes last, as this path
pub record LocalAdded (class : ShownPath) (fixed : Bool) (tt : TypeTerm) (name : Name) (q : ℕ) (xs : List ShownAtom)
    (old new : List Var) : Type 0 where
  pub is : new ≡ old ++ var name q fixed (bare_form class old (written_type tt xs)) ∷ []

-- those that were known come first
pub record Extends (old new : List Var) : Type 0 where
  pub more : List Var
  pub is : new ≡ old ++ more

-- Example: in a body of a.D behind `final C c = ..; final c.class.E e = ..;` the variables are c, of the type C, and e, of
-- the type c.class.E in normal form.
