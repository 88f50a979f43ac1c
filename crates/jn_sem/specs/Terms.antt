-- What the terms and types of a body and of a field stand for.
use Rattle.std.specs.Prelude.{◌≡◌, List, [], ◌∷◌, Ok}
use Rattle.jn_base.specs.declared.tree.Name.{Name}
use Rattle.jn_base.specs.declared.tree.Term.{Term}
use Rattle.jn_base.specs.declared.tree.ViewTerm.{ViewTerm}
use Rattle.jn_base.specs.declared.tree.TypeTerm.{TypeTerm}
use Rattle.jn_base.specs.declared.tree.Program.{Program}
use Rattle.jn_base.specs.declared.types.Atom.{Atom as ShownAtom}
use Rattle.jn_base.specs.declared.types.Masks.{Masks}
use Rattle.jn_base.specs.declared.types.Ty.{Ty}
use Rattle.jn_base.specs.declared.types.Ty.TheVariants as ty
use Rattle.jn_base.specs.declared.names.Role.{Role}
use Rattle.jn_base.specs.declared.names.Role.TheVariants as role
use Rattle.jn_base.specs.declared.names.Spot.{Spot}
use Rattle.jn_base.specs.declared.names.Var.{Var}
use Rattle.jn_base.specs.declared.names.Vars.{Vars}
use Rattle.jn_base.specs.Paths.{Path, shown}
use Rattle.jn_base.specs.Atoms.{Atom, atom_of}
use Rattle.jn_base.specs.Resolve.{scope_at, bound_at, Resolve}
use Rattle.jn_base.specs.ResolveTypes.{mask_names, ResolveType, ResolveView}
use Rattle.jn_sem.specs.Normal.{NormalType}

-- Where a term of a body stands: in the declaration of a class, in its method, with variables in scope, in the order of
-- their declarations.
pub record Site : Type 0 where
  pub class : Path
  pub method : Name
  pub vars : List Var

abbrev pub spot : Path → Name → Role → Spot
spot Q m r = record { class = shown Q; owner = m; role = r }

abbrev pub spot_at : Site → Role → Spot
spot_at at r = spot at.class at.method r

abbrev pub vars_at : Site → Vars
vars_at at = record { list = at.vars }

-- the type of a parameter, result or local: what is resolved, in normal form
pub record TypeIs (p : Program) (at : Site) (t : TypeTerm) (type : Ty) : Type 0 where
  pub given : Ty
  pub resolved : ResolveType p (mask_names p) (spot_at at role.Value) (vars_at at) t (Ok given)
  pub normal : NormalType (scope_at (spot_at at role.Value) (vars_at at)) given type

-- the type of the field f that is declared at Q
abbrev pub FieldTypeIs : Program → Path → Name → TypeTerm → Ty → Type 0
FieldTypeIs p Q f t type = ResolveType p (mask_names p) (spot Q f role.Field) (record { list = [] }) t (Ok type)

-- the atom of the term of `new` or `super`
abbrev pub TermIs : Program → Role → Site → Term → Atom → Type 0
TermIs p r at t x = (given : ShownAtom) × Resolve p (spot_at at r) (vars_at at) t (Ok given) × (x ≡ atom_of given)

-- the bound of the term of `super`
pub record SuperBound (p : Program) (at : Site) (t : Term) (B : Path) : Type 0 where
  pub given : ShownAtom
  pub resolved : Resolve p (spot_at at role.Super) (vars_at at) t (Ok given)
  pub is : B ≡ bound_at (spot_at at role.Super) (vars_at at) given

-- the atom of the target of a view
pub record ViewIs (p : Program) (at : Site) (t : ViewTerm) (x : Atom) : Type 0 where
  pub given : ShownAtom
  pub masks : Masks
  pub resolved : ResolveView p (mask_names p) (spot_at at role.View) (vars_at at) t (Ok (ty.Class (given ∷ []) masks))
  pub is : x ≡ atom_of given

-- Example: in a body of base.Make the term `Lit` stands for the atom of the anchor Up(this, 1) and the name Lit. Where the
-- view of `this` is both.Make, `new Lit(..)` makes a both.Lit.
