-- Types as sets of classes, in a state that has views for its paths.
use Rattle.std.specs.Prelude.{◌≡◌, ◌++◌, ℕ, List, Option, None, length, drop, unwrap_or, IsSome, []}
use Rattle.jn_base.specs.declared.tree.Program.{Program}
use Rattle.jn_base.specs.declared.types.Anchor.{Anchor}
use Rattle.jn_base.specs.declared.types.Anchor.TheVariants.{Root, Up}
use Rattle.jn_base.specs.declared.types.Ty.{Ty}
use Rattle.jn_base.specs.declared.types.Ty.TheVariants as ty
use Rattle.jn_base.specs.Paths.{Path}
use Rattle.jn_base.specs.Supers.{Sup}
use Rattle.jn_base.specs.Universe.{InUniverse}
use Rattle.jn_base.specs.Atoms.{Atom, atoms_in, anchor_at, Among}
use Rattle.jn_base.specs.Scopes.{Bind, Scope, Binds}

-- rho: the view of each path's object, where it has one. A path that is bound to null, or not in scope, has none.
abbrev pub Views : Type 0
Views = ℕ → Option Path

abbrev pub no_views : Views
no_views q = None

abbrev pub Seen : Views → ℕ → Type 0
Seen v q = IsSome (v q)

abbrev pub view_at : Views → ℕ → Path
view_at v q = unwrap_or (v q) []

-- the anchor's path has a view
abbrev pub AnchorSeen : Views → Anchor → Type 0
AnchorSeen v Root = Unit {0}
AnchorSeen v (Up q k) = Seen v q

-- Eval(Root) is the empty path, and Eval(Up(q, k)) the view of q without its last k names.
abbrev pub eval : Views → Anchor → Path
eval v a = anchor_at (view_at v) a

-- V without as many last names as `names` has is E, and E with these names is in Sup(V).
pub record Inside (p : Program) (V E : Path) (names : Path) : Type 0 where
  pub exact : drop (length names) V ≡ E
  pub super : Sup p V (names ++ E)

-- A class V is in an atom where V without as many last names as there are inexact ones is the anchor's value with the
-- exact names, and that path with the inexact names is in Sup(V).
pub record InAtom (p : Program) (v : Views) (x : Atom) (V : Path) : Type 0 where
  pub seen : AnchorSeen v x.anchor
  pub inside : Inside p V (x.exact ++ eval v x.anchor) x.names

abbrev pub InAtoms : Program → Views → List Atom → Path → Type 0
InAtoms p v xs V = (x : Atom) → Among xs x → InAtom p v x V

-- A class is in a class type where it is in each of its atoms, and in no other type.
abbrev pub InType : Program → Views → Ty → Path → Type 0
InType p v (ty.Class xs m) V = InAtoms p v (atoms_in (ty.Class xs m)) V
InType p v ty.Int V = ⊥
InType p v ty.Bool V = ⊥
InType p v ty.Null V = ⊥
InType p v ty.Void V = ⊥

-- The views of a state respect a scope: each path that has one is bound, to a type that the view is in, and the view is a
-- class of the universe.
pub record Respects (p : Program) (v : Views) (s : Scope) : Type 0 where
  pub bound : (q : ℕ) → Seen v q → Binds s q
  pub universe : (q : ℕ) → Seen v q → InUniverse p (view_at v q)
  pub holds : (b : Bind) → Among s b → Seen v b.path → InType p v b.ty (view_at v b.path)
