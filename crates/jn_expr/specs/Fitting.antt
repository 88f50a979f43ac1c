-- What fits a scope, atom by atom.
use Rattle.std.specs.Prelude.{◌≡◌, ℕ, length}
use Rattle.jn_base.specs.Atoms.{Atom}
use Rattle.jn_base.specs.Scopes.{Scope, bound}
use Rattle.jn_base.specs.Fits.{Anchored}

-- the atom is anchored, and its bound has n names
pub record FitsAt (s : Scope) (n : ℕ) (x : Atom) : Type 0 where
  pub anchored : Anchored s x.anchor
  pub depth : length (bound s x) ≡ n
