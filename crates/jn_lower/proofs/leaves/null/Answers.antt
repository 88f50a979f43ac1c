use Rattle.jn_lower.proofs.Seams.{on_ok}
use Rattle.jn_lower.proofs.OneInstr.{null_so}
use Rattle.jn_lower.proofs.leaves.null.Goals as goal

pub returns : goal.returns
returns c = on_ok c.push.result (null_so c.args.out.now c.push.new.self) c.push.ensures.emitted
