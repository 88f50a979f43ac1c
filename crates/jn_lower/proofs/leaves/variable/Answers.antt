use Rattle.jn_lower.proofs.Seams.{on_ok}
use Rattle.jn_lower.proofs.OneInstr.{var_so}
use Rattle.jn_lower.proofs.leaves.variable.Goals as goal

pub returns : goal.returns
returns c = on_ok c.push.result (var_so c.args.out.now c.push.new.self c.args.q) c.push.ensures.emitted
