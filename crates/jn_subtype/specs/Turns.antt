-- What the parts of a turn add to a list.
use Rattle.std.specs.Prelude.{◌≡◌, ◌↔◌, ◌⊎◌, ℕ, List, Contains}
use Rattle.jn_base.specs.declared.tree.Program.{Program}
use Rattle.jn_base.specs.Universe.{InUniverse}
use Rattle.jn_base.specs.Atoms.{Atom, Among}
use Rattle.jn_base.specs.Scopes.{Scope, bound}
use Rattle.jn_sem.specs.Widening.{replaced}
use Rattle.jn_sem.specs.Search.{Spreads, Enters}

-- the new list has what the old one has, and each of which P holds
pub record Adds {A : Type 0} (P : A → Type 0) (old new : List A) : Type 0 where
  pub each : (x : A) → Contains new x ↔ (Contains old x ⊎ P x)

-- one of the atoms zs makes t of w, from whose path k names are taken off, and the bound of t is in the universe
pub record Replaces (p : Program) (s : Scope) (zs : List Atom) (k : ℕ) (w t : Atom) : Type 0 where
  pub by : Atom
  pub among : Among zs by
  pub is : t ≡ replaced by k w
  pub universe : InUniverse p (bound s t)

-- t is reached by one step 4 or none, and then one step 3
pub record SpreadEnters (p : Program) (s : Scope) (z t : Atom) : Type 0 where
  pub spread : Atom
  pub spreads : Spreads p s z spread
  pub enters : Enters p s spread t
