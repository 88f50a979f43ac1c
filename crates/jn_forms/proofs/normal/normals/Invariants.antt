use Rattle.std.proofs.Common.{◌≡◌, ◌++◌, ◌∷◌, drop, map, reverse}
use Rattle.jn_base.specs.Atoms.{atom_of}
use Rattle.jn_base.specs.Resolve.{var_bind}
use Rattle.jn_sem.specs.Normal.{normal}
use Rattle.jn_forms.proofs.normal.normals.Given as goal

abbrev pub invariant-loop-x : goal.invariant-loop-x
invariant-loop-x l =
    let form = normal (reverse (record { path = 0; ty = l.this } ∷ map var_bind l.vars)) in
    l.all.items ++ map form (map atom_of (drop l.x-index l.xs)) ≡ map form (map atom_of l.xs)
