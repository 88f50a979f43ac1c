use Rattle.std.proofs.Common.{Option, subst}
use Rattle.std.specs.Prelude.{IfOk}
use Rattle.jn_table.specs.declared.table.Table.{Table}
use Rattle.jn_meaning.specs.declared.work.Due.{Due}
use Rattle.jn_meaning.specs.Work.{todo_in, IsNext}
use Rattle.jn_meaning.specs.Running.{Proceeds}
use Rattle.jn_meaning.proofs.Lists.{if_ok}
use Rattle.jn_meaning.proofs.OneCharge.{charges_act}
use Rattle.jn_meaning.proofs.charging.charge.Goals as goal

pub returns-in_ok-did-in-Some-clause-charges : goal.returns-in_ok-did-in-Some-clause-charges
returns-in_ok-did-in-Some-clause-charges c =
    let w = c.next_act.new.work in
    let p = c.args.w.now.program.now in
    if_ok c.proceed.result
    (λ x k. charges_act p c.args.t.now.known.items c.args.arena c.args.depth c.args.now.now c.args.waiting.now.items c.args.h.now w c.in-Some.due c.truncate.new.self
    (subst (λ (o : Option Due). IsNext (todo_in c.args.now.now.todo) o (todo_in w)) c.in-Some.is c.in_ok-next_act.ensures)
    c.truncate.ensures.vars c.truncate.ensures.values c.in_ok-did-in-Some.did c.act.new.f c.act.new.h c.in_ok-did-in-Some.ensures.did x.line x.ending c.proceed.new.now c.proceed.new.waiting.items k)
    (subst (λ (u : Table). IfOk c.proceed.result (λ x. Proceeds p u.known.items c.args.depth c.in_ok-did-in-Some.did c.act.new.f c.args.waiting.now.items c.act.new.h x.line x.ending c.proceed.new.now c.proceed.new.waiting.items))
    c.in_ok-did-in-Some.ensures.kept c.proceed.ensures)
