use Rattle.std.proofs.Common.{◌≡◌, ◌++◌, drop, map}
use Rattle.jn_base.specs.Atoms.{atom_of}
use Rattle.jn_sem.specs.Normal.{swapped}
use Rattle.jn_sem.specs.NormalFunction.{moved_normal}
use Rattle.jn_intern.specs.Pools.{scope_in}
use Rattle.jn_normal.proofs.substitution.normals.Given as goal

abbrev pub invariant-loop-x : goal.invariant-loop-x
invariant-loop-x l =
    let form = moved_normal (scope_in l.pool l.scope) (swapped l.from l.to) in
    l.all.items ++ map form (map atom_of (drop l.x-index l.xs)) ≡ map form (map atom_of l.xs)
