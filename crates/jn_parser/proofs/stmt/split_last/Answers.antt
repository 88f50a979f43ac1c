use Rattle.jn_parser.proofs.Parts.{front_is, last_is}
use Rattle.jn_parser.proofs.stmt.split_last.Goals as goal

pub returns-in-Some-clause-front : goal.returns-in-Some-clause-front
returns-in-Some-clause-front c = front_is c.args.parts c.pop.new.self c.in-Some.last c.in-Some.ensures

pub returns-in-Some-clause-last : goal.returns-in-Some-clause-last
returns-in-Some-clause-last c = last_is c.args.parts c.pop.new.self c.in-Some.last c.in-Some.ensures
