use Rattle.jn_share.proofs.FirstSlots.{no_decl, decl_found}
use Rattle.jn_share.proofs.firsts.decl_of.Goals as goal

pub returns-in-None : goal.returns-in-None
returns-in-None c = λ p types V f ready at.
    no_decl p c.args.t.now types c.args.all.now c.args.id V c.args.field at c.row.result.now (c.row.ensures p V f.table at) c.deref.result.now c.deref.ensures.value
    c.in-None.ensures

pub returns-in-Some : goal.returns-in-Some
returns-in-Some c = λ p types V f ready at.
    decl_found p c.args.t.now types c.args.all.now c.args.id V c.args.field at c.row.result.now (c.row.ensures p V f.table at) c.deref.result.now c.deref.ensures.value
    ready c.in-Some.i c.in-Some.ensures c.decls_of.result.now c.decls_of.ensures c.number_at.result c.number_at.ensures
