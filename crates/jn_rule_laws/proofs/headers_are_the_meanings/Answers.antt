use Rattle.jn_rule_laws.proofs.HeaderLaws.{headers_are_the_meanings}
use Rattle.jn_rule_laws.proofs.headers_are_the_meanings.Goals as goal

pub returns : goal.returns
returns c = headers_are_the_meanings
