use Rattle.jn_meaning.proofs.Lists.{if_ok}
use Rattle.jn_meaning.proofs.Acting.{gets}
use Rattle.jn_meaning.proofs.doing.get.Goals as goal

pub returns-in-Reference-clause-did : goal.returns-in-Reference-clause-did
returns-in-Reference-clause-did c =
    if_ok c.get_at.result
    (λ d k. gets c.args.w.now.program.now c.args.t.now.known.items c.args.h.now c.args.field c.args.f.now c.get_at.new.f c.in-Some.v c.pop.new.self c.in-Reference.o c.in-Reference.id d
    c.in-Some.ensures c.in-Reference.is k)
    c.get_at.ensures.did
