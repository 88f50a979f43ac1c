use Rattle.jn_link.proofs.CountLaws.{selectors_are_few}
use Rattle.jn_link.proofs.law.selectors_are_few.Goals as goal

pub returns : goal.returns
returns c = selectors_are_few
