use Rattle.std.proofs.Common.{◌≡◌, Contains, length, take}
use Rattle.jn_base.specs.declared.types.Atom.{Atom as ShownAtom}
use Rattle.jn_base.specs.Atoms.{atom_of}
use Rattle.jn_base.specs.Scopes.{bound}
use Rattle.jn_base.specs.Fits.{Anchored}
use Rattle.jn_subtype.specs.Binds.{binds_in}
use Rattle.rows_classes.proofs.fits.are_deep.Given as goal

abbrev pub invariant-loop-x : goal.invariant-loop-x
invariant-loop-x l = record {
  anchored : (x : ShownAtom) → Contains (take l.x-index l.xs) x → Anchored (binds_in l.pool l.binds) x.anchor;
  deep : (x : ShownAtom) → Contains (take l.x-index l.xs) x → length (bound (binds_in l.pool l.binds) (atom_of x)) ≡ l.depth;
}
