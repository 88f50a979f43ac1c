-- The root closure.
use Rattle.std.specs.Prelude.{◌≡◌, ℕ, List}
use Rattle.jn_base.specs.declared.tree.Program.{Program}
use Rattle.jn_base.specs.declared.types.Anchor.TheVariants.{Root, Up}
use Rattle.jn_base.specs.declared.types.Ty.{Ty}
use Rattle.jn_base.specs.Paths.{Path}
use Rattle.jn_base.specs.Universe.{InUniverse}
use Rattle.jn_base.specs.Atoms.{Atom, atoms_in, Among}
use Rattle.jn_base.specs.Scopes.{Bind, Scope, bound}
use Rattle.jn_sem.specs.Sets.{no_views, InAtom}
use Rattle.jn_sem.specs.Widening.{replaced}

-- The root closure replaces each Up(q, k) by step 3 for each atom of q's type, until all anchors are Root. An atom whose
-- bound isn't in the universe is left out as soon as it arises, and where it stands in the type to begin with.
-- z is one of the atoms that it puts for x:
pub data Opens (p : Program) (s : Scope) : Atom → Atom → Type 0 where
  closed : {x : Atom} → x.anchor ≡ Root → InUniverse p (bound s x) → Opens p s x x
  through : {x z : Atom} (b : Bind) (k : ℕ) (w : Atom) → InUniverse p (bound s x) → Among s b → x.anchor ≡ Up b.path k
      → Among (atoms_in b.ty) w → Opens p s (replaced w k x) z → Opens p s x z

-- z is an atom of the root closure of the atoms xs
pub record InClosure (p : Program) (s : Scope) (xs : List Atom) (z : Atom) : Type 0 where
  pub from : Atom
  pub among : Among xs from
  pub opens : Opens p s from z

-- The classes of the root closure of a type: those in each of its atoms, in no state, since it has no paths. A closure left
-- without atoms holds every class.
abbrev pub InRootClosure : Program → Scope → Ty → Path → Type 0
InRootClosure p s t V = (z : Atom) → InClosure p s (atoms_in t) z → InAtom p no_views z V
