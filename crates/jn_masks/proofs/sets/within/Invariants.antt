use Rattle.std.proofs.Common.{ℕ, ◌<◌, ◌*◌}
use Rattle.jn_base.specs.Atoms.{HasMask}
use Rattle.jn_masks.proofs.sets.within.Given as goal

abbrev pub invariant-loop-w : goal.invariant-loop-w
invariant-loop-w l = (j : ℕ) → j < l.w * 64 → HasMask l.a j → HasMask l.b j
