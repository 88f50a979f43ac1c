use Rattle.jn_meaning.proofs.Steps.{repeats_as}
use Rattle.jn_meaning.proofs.plain.repeat.Goals as goal

pub returns-in_ok-put_loop-in-Some-truth_in : goal.returns-in_ok-put_loop-in-Some-truth_in
returns-in_ok-put_loop-in-Some-truth_in c =
    let f = c.args.f.now in
    let k = c.in_ok-put_loop-in-Some-truth_in.ensures in
    repeats_as f c.put_loop.new.f c.in-Some.v c.pop.new.self c.args.path c.args.e.now c.args.body.now c.in-Some-truth_in.b f.locals.paired c.in-Some.ensures c.in-Some-truth_in.ensures k.rest k.todo
