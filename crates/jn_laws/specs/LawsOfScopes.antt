-- What scopes that differ in masks alone have in common, and the root closure as a list.
use Rattle.std.specs.Prelude.{◌≡◌, ℕ, List, [], ◌∷◌}
use Rattle.jn_base.specs.declared.tree.Program.{Program}
use Rattle.jn_base.specs.declared.types.Anchor.{Anchor}
use Rattle.jn_base.specs.declared.types.Anchor.TheVariants.{Root}
use Rattle.jn_base.specs.declared.types.Ty.{Ty}
use Rattle.jn_base.specs.Atoms.{Atom, atoms_in}
use Rattle.jn_base.specs.Scopes.{Bind, Scope, bound_of, Binds}
use Rattle.jn_base.specs.Fits.{Anchored, TypeFits, BindsFit}
use Rattle.jn_base.specs.Resolve.{is_class}
use Rattle.jn_sem.specs.Below.{Below}
use Rattle.jn_sem.specs.Normal.{normal}
use Rattle.jn_sem.specs.RootClosure.{InClosure}
use Rattle.jn_laws.specs.Surely.{Surely, ListOf}

-- ---- scopes that differ in masks alone

-- one path, one list of atoms, and both a class type or neither
pub record BindsAlike (b c : Bind) : Type 0 where
  pub path : c.path ≡ b.path
  pub atoms : atoms_in c.ty ≡ atoms_in b.ty
  pub class : is_class c.ty ≡ is_class b.ty

pub data ScopesAlike : Scope → Scope → Type 0 where
  none : ScopesAlike [] []
  one : {b c : Bind} {s t : Scope} → BindsAlike b c → ScopesAlike s t → ScopesAlike (b ∷ s) (c ∷ t)

-- what is said of the one is said of the other
pub record AlikeOf (p : Program) (s t : Scope) : Type 0 where
  pub turned : ScopesAlike t s
  pub binds : (q : ℕ) → Binds s q → Binds t q
  pub bounds : (q : ℕ) → bound_of t q ≡ bound_of s q
  pub anchored : (a : Anchor) → Anchored s a → Anchored t a
  pub fits : (u : Ty) → TypeFits s u → TypeFits t u
  pub binds_fit : BindsFit s → BindsFit t
  pub normals : (x : Atom) → normal t x ≡ normal s x
  pub below : (u w : Ty) → Below p s u w → Below p t u w
  pub closure : (xs : List Atom) (z : Atom) → InClosure p s xs z → InClosure p t xs z

abbrev pub MasksAlone : Type 0
MasksAlone = (p : Program) (s t : Scope) → ScopesAlike s t → AlikeOf p s t

-- ---- the root closure

-- The atoms of a root closure surely have a list, and each has the anchor Root.
pub record ClosureOf (p : Program) (s : Scope) (xs : List Atom) : Type 0 where
  pub listed : Surely (ListOf (InClosure p s xs))
  pub root : (z : Atom) → InClosure p s xs z → z.anchor ≡ Root

abbrev pub ClosuresListed : Type 0
ClosuresListed = (p : Program) (s : Scope) (xs : List Atom) → BindsFit s → ClosureOf p s xs
