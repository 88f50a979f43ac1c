use Rattle.jn_meaning.proofs.Lists.{if_ok}
use Rattle.jn_meaning.proofs.Results.{returns_value}
use Rattle.jn_meaning.proofs.leaving.return_value.Goals as goal

pub returns-in-Some-result-clause-did : goal.returns-in-Some-result-clause-did
returns-in-Some-result-clause-did c =
    if_ok c.return_typed.result
    (λ d k. returns_value c.args.w.now.program.now c.args.t.now.known.items c.args.h.now c.args.f.now c.in-Some.v c.pop.new.self c.in-Some-result.ty c.return_typed.new.f d
    c.in-Some.ensures c.in-Some-result.is k)
    c.return_typed.ensures.did
