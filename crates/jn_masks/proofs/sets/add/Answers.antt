use Rattle.std.proofs.Common.{arith}
use Rattle.jn_masks.proofs.Bits.{added}
use Rattle.jn_masks.proofs.sets.add.Goals as goal

pub returns : goal.returns
returns c = rw c.from.ensures (λ j. added c.args.m.0 c.args.i j (omega arith))
