use Rattle.std.proofs.Common.{arith}
use Rattle.jn_masks.proofs.Bits.{dropped}
use Rattle.jn_masks.proofs.sets.drop.Goals as goal

pub returns : goal.returns
returns c = rw c.from.ensures (λ j. dropped c.args.m.0 c.args.i j (omega arith))
