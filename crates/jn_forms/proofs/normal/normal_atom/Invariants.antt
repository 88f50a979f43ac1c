use Rattle.std.proofs.Common.{◌≡◌, ◌≤◌, ◌∷◌, take, map, reverse, length}
use Rattle.jn_base.specs.Resolve.{var_bind}
use Rattle.jn_sem.specs.Normal.{normal}
use Rattle.jn_forms.proofs.normal.normal_atom.Given as goal

abbrev pub invariant-loop-left : goal.invariant-loop-left
invariant-loop-left l = record {
  within : l.left ≤ length l.vars;
  same : normal (reverse (record { path = 0; ty = l.this } ∷ map var_bind (take l.left l.vars))) l.now
      ≡ normal (reverse (record { path = 0; ty = l.this } ∷ map var_bind l.vars)) l.fn.x;
}

abbrev pub decreases-loop-left : goal.decreases-loop-left
decreases-loop-left l = l.left
