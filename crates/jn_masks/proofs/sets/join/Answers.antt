use Rattle.std.proofs.Common.{arith}
use Rattle.jn_masks.proofs.Bits.{joined}
use Rattle.jn_masks.proofs.sets.join.Goals as goal

pub returns : goal.returns
returns c = λ j. joined c.args.a.0 c.args.b.0 j (omega arith) (omega arith)
