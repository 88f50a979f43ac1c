use Rattle.std.proofs.Common.{◌≡◌, drop, map}
use Rattle.jn_base.specs.Atoms.{atom_of}
use Rattle.jn_sem.specs.Normal.{by_first}
use Rattle.jn_forms.proofs.normal.by_first.Given as goal

abbrev pub invariant-loop-z : goal.invariant-loop-z
invariant-loop-z l = by_first l.k l.fn.x (map atom_of (drop l.z-index l.atoms)) ≡ by_first l.k l.fn.x (map atom_of l.atoms)
