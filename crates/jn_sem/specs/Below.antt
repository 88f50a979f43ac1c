-- Which types are below which.
use Rattle.std.specs.Prelude.{List}
use Rattle.jn_reach.specs.Chain.{Chain}
use Rattle.jn_base.specs.declared.tree.Program.{Program}
use Rattle.jn_base.specs.declared.types.Atom.{Atom as ShownAtom}
use Rattle.jn_base.specs.declared.types.Masks.{Masks}
use Rattle.jn_base.specs.declared.types.Ty.{Ty}
use Rattle.jn_base.specs.declared.types.Ty.TheVariants as ty
use Rattle.jn_base.specs.Atoms.{Atom, atoms_in, Among, MasksWithin}
use Rattle.jn_base.specs.Scopes.{Scope}
use Rattle.jn_sem.specs.Widening.{Widens}

-- some atom of xs has y at the end of a chain of widening steps
pub record ReachedFrom (p : Program) (s : Scope) (xs : List Atom) (y : Atom) : Type 0 where
  pub from : Atom
  pub among : Among xs from
  pub chain : Chain (Widens p s) from y

-- each atom of ys is the end of a chain of widening steps from an atom of xs
abbrev pub BelowAtoms : Program → Scope → List Atom → List Atom → Type 0
BelowAtoms p s xs ys = (y : Atom) → Among ys y → ReachedFrom p s xs y

-- S is below T where both are int, or both boolean, or S is the null type and T a class type, or each atom of T is the end
-- of a chain of widening steps from an atom of S and the masks of S are within those of T.
pub data Below (p : Program) (s : Scope) : Ty → Ty → Type 0 where
  ints : Below p s ty.Int ty.Int
  booleans : Below p s ty.Bool ty.Bool
  nulls : {ys : List ShownAtom} {n : Masks} → Below p s ty.Null (ty.Class ys n)
  classes : {xs ys : List ShownAtom} {m n : Masks} → BelowAtoms p s (atoms_in (ty.Class xs m)) (atoms_in (ty.Class ys n))
      → MasksWithin m n → Below p s (ty.Class xs m) (ty.Class ys n)
