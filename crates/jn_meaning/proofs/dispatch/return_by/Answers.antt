use Rattle.std.proofs.Common.{Bool, sym, subst}
use Rattle.jn_sem.specs.Acts as acts
use Rattle.jn_meaning.specs.Heaps.{heap_of}
use Rattle.jn_meaning.specs.Doing.{Done}
use Rattle.jn_meaning.proofs.Lists.{if_ok}
use Rattle.jn_meaning.proofs.dispatch.return_by.Goals as goal

pub returns-then-gives-clause-did : goal.returns-then-gives-clause-did
returns-then-gives-clause-did c =
    if_ok c.return_value.result
    (λ d k. subst (λ (b : Bool). Done c.args.w.now c.args.t.now c.args.h.now (acts.Return b) c.args.f.now d c.return_value.new.f) (sym c.if-gives.true) k)
    c.return_value.ensures.did

pub returns-else-gives-clause-did : goal.returns-else-gives-clause-did
returns-else-gives-clause-did c =
    let known = c.args.t.now.known.items in
    subst (λ (b : Bool). Done c.args.w.now c.args.t.now c.args.h.now (acts.Return b) c.args.f.now c.return_none.result c.return_none.new.f) (sym c.if-gives.false)
    (λ m. c.return_none.ensures c.args.w.now.program.now m known (heap_of known c.args.h.now))
