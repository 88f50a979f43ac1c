-- The parts of the root closure.
use Rattle.std.specs.Prelude.{ℕ, List}
use Rattle.jn_base.specs.declared.tree.Program.{Program}
use Rattle.jn_base.specs.Atoms.{Atom, Among}
use Rattle.jn_base.specs.Scopes.{Scope}
use Rattle.jn_sem.specs.Widening.{replaced}
use Rattle.jn_sem.specs.RootClosure.{Opens}

-- the closure puts z for what one of the atoms zs makes of x
pub record OpensBy (p : Program) (s : Scope) (zs : List Atom) (k : ℕ) (x z : Atom) : Type 0 where
  pub by : Atom
  pub among : Among zs by
  pub opens : Opens p s (replaced by k x) z
