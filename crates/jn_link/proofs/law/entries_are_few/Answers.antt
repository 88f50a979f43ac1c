use Rattle.jn_link.proofs.CountLaws.{entries_are_few}
use Rattle.jn_link.proofs.law.entries_are_few.Goals as goal

pub returns : goal.returns
returns c = entries_are_few
