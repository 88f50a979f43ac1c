-- Where a member can be found, and what a class in a type has to do with the bounds of its atoms.
use Rattle.jn_base.specs.declared.tree.Name.{Name}
use Rattle.jn_base.specs.declared.tree.Program.{Program}
use Rattle.jn_base.specs.declared.types.Ty.{Ty}
use Rattle.jn_base.specs.Paths.{Path}
use Rattle.jn_base.specs.Supers.{Sup}
use Rattle.jn_base.specs.Universe.{InUniverse}
use Rattle.jn_base.specs.Atoms.{Atom, atoms_in, Among}
use Rattle.jn_base.specs.Scopes.{Scope, bound}
use Rattle.jn_base.specs.Fits.{BindsFit}
use Rattle.jn_sem.specs.Sets.{Views, InType, Respects}
use Rattle.jn_sem.specs.Values.{HasField}
use Rattle.jn_laws.specs.LawsOfUniverse.{HasMethod}

pub record FoundOf (p : Program) : Type 0 where
  -- what has a super in the universe is in it; so is each path that has a method or a field
  pub heirs : (R S : Path) → Sup p R S → InUniverse p S → InUniverse p R
  pub methods : (R : Path) (m : Name) → HasMethod p R m → InUniverse p R
  pub fields : (R : Path) (f : Name) → HasField p R f → InUniverse p R

abbrev pub MembersInUniverse : Type 0
MembersInUniverse = (p : Program) → FoundOf p

-- In each state that respects the scope a class in a type has in its Sup the bound of each atom of the type that is in the
-- universe. So what is found in such a bound, the class has.
abbrev pub ClassesUnderBounds : Type 0
ClassesUnderBounds = (p : Program) (s : Scope) (v : Views) → BindsFit s → Respects p v s
    → (t : Ty) (x : Atom) (V : Path) → InType p v t V → Among (atoms_in t) x → InUniverse p (bound s x) → Sup p V (bound s x)
