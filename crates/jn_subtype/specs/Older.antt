-- Why the search for a chain of widening ends: it goes on to atoms at older paths.
use Rattle.std.specs.Prelude.{◌≡◌, ◌<◌}
use Rattle.jn_base.specs.Atoms.{Atom}
use Rattle.jn_base.specs.Scopes.{Scope}
use Rattle.jn_base.specs.Fits.{Anchored}
use Rattle.jn_sem.specs.Search.{rank}

-- z's anchor fits the scope, and its path is as old as x's
pub record IsAsOld (s : Scope) (x z : Atom) : Type 0 where
  pub anchored : Anchored s z.anchor
  pub same : rank s z.anchor ≡ rank s x.anchor

-- t's anchor fits the scope, and its path is older than x's
pub record IsOlder (s : Scope) (x t : Atom) : Type 0 where
  pub anchored : Anchored s t.anchor
  pub less : rank s t.anchor < rank s x.anchor
