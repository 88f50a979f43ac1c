use Rattle.std.proofs.Common.{◌≡◌, map}
use Rattle.jn_base.specs.Atoms.{atom_of}
use Rattle.jn_forms.proofs.normal.shown_atoms.Given as goal

abbrev pub invariant-loop-x : goal.invariant-loop-x
invariant-loop-x l = map atom_of l.all ≡ l.yielded
