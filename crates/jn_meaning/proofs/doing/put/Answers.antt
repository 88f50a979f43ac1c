use Rattle.jn_meaning.proofs.Lists.{if_ok}
use Rattle.jn_meaning.proofs.Acting.{puts_field}
use Rattle.jn_meaning.proofs.doing.put.Goals as goal

pub returns-in-Reference-clause-did : goal.returns-in-Reference-clause-did
returns-in-Reference-clause-did c =
    if_ok c.put_at.result
    (λ d k. puts_field c.args.w.now.program.now c.args.t.now.known.items c.args.h.now c.in-Reference.o c.in-Reference.id c.in-Some.v c.args.field c.args.f.now c.in-Some-pop.r c.pop.new.self c.pop-in-Some.new.self d c.put_at.new.h
    c.in-Some.ensures c.in-Some-pop.ensures c.in-Reference.is k)
    c.put_at.ensures.did
