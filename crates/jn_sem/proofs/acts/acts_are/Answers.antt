use Rattle.jn_sem.proofs.ActLaws.{acts_are}
use Rattle.jn_sem.proofs.acts.acts_are.Goals as goal

pub returns : goal.returns
returns c = acts_are
