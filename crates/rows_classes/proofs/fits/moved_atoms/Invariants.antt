use Rattle.std.proofs.Common.{◌≡◌, map, take}
use Rattle.jn_base.specs.Atoms.{atom_of}
use Rattle.jn_sem.specs.Normal.{moved, swapped}
use Rattle.rows_classes.proofs.fits.moved_atoms.Given as goal

abbrev pub invariant-loop-x : goal.invariant-loop-x
invariant-loop-x l = map atom_of l.all ≡ map (moved (swapped l.from l.to)) (map atom_of (take l.x-index l.xs))
