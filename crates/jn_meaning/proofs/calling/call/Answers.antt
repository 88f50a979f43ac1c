use Rattle.jn_meaning.proofs.Lists.{if_ok}
use Rattle.jn_meaning.proofs.Receivers.{taken_none, taken_some, call_few, call_had}
use Rattle.jn_meaning.proofs.calling.call.Goals as goal

pub returns-in-None-clause-did : goal.returns-in-None-clause-did
returns-in-None-clause-did c = λ h.
    call_few c.args.w.now.program.now c.args.t.now.known.items h c.args.f.now c.args.m c.args.n c.args.keeps (taken_none _ _ _ c.in_ok-taken.ensures c.in-None.is)

pub returns-in-Some-clause-did : goal.returns-in-Some-clause-did
returns-in-Some-clause-did c =
    let k = taken_some _ _ _ c.in-Some.all c.in_ok-taken.ensures c.in-Some.is in
    if_ok c.call_on.result
    (λ d u h. call_had c.args.w.now.program.now c.args.t.now.known.items h c.args.f.now c.args.m c.args.n c.args.keeps c.in-Some.all.items c.take_args.new.self d k.0 k.1 u)
    c.call_on.ensures.did
