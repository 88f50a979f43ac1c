use Rattle.jn_meaning.proofs.Steps.{chooses_as}
use Rattle.jn_meaning.proofs.plain.choose.Goals as goal

pub returns-in_ok-put_side-in-Some-truth_in : goal.returns-in_ok-put_side-in-Some-truth_in
returns-in_ok-put_side-in-Some-truth_in c =
    let f = c.args.f.now in
    let k = c.in_ok-put_side-in-Some-truth_in.ensures in
    chooses_as f c.put_side.new.f c.in-Some.v c.pop.new.self c.args.path c.args.one.now c.args.other.now c.in-Some-truth_in.b f.locals.paired c.in-Some.ensures c.in-Some-truth_in.ensures k.rest k.todo
