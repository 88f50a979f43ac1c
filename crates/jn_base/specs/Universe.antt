-- The paths that a program has.
use Rattle.std.specs.Prelude.{[], ◌∷◌}
use Rattle.jn_base.specs.declared.tree.Name.{Name}
use Rattle.jn_base.specs.declared.tree.Program.{Program}
use Rattle.jn_base.specs.Paths.{Path}
use Rattle.jn_base.specs.Supers.{Direct, Member}

-- the program itself, its declared top-level names, members of these, members of members, and so on
abbrev pub IsNamespace : Program → Path → Type 0
IsNamespace p [] = Unit {0}
IsNamespace p (C ∷ P) = IsNamespace p P × Member p P C

-- the universe: all of these but the program itself
abbrev pub InUniverse : Program → Path → Type 0
InUniverse p [] = ⊥
InUniverse p (C ∷ P) = IsNamespace p P × Member p P C

-- R is in Reach(q), the least set that holds q and is closed under prefixes and direct supers; a prefix has a name
pub data Reach (p : Program) (q : Path) : Path → Type 0 where
  here : Reach p q q
  outwards : {P : Path} {C D : Name} → Reach p q (D ∷ C ∷ P) → Reach p q (C ∷ P)
  upwards : {R S : Path} → Reach p q R → Direct p R S → Reach p q S
