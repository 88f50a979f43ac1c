use Rattle.jn_layout.proofs.Faultless.{faultless}
use Rattle.jn_layout.proofs.law.rows_are_faultless.Goals as goal

pub returns : goal.returns
returns c = λ p t m g s names n i out. faultless p t m g s names n i out
