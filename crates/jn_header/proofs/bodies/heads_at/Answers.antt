use Rattle.std.proofs.Common.{None}
use Rattle.jn_header.proofs.BodyRows.{no_heads, decl_here, declared_in, heads_here}
use Rattle.jn_header.proofs.bodies.heads_at.Goals as goal

pub returns-in-None-clause-told : goal.returns-in-None-clause-told
returns-in-None-clause-told c = λ R n.
    no_heads c.args.p.now R _ c.new.ensures.items
    (decl_here c.args.p.now c.args.t.now c.args.id c.row.result.now c.row.ensures c.requires.judged.ready.filled.table R n None c.in-None.ensures)

pub heads_of-requires-clause-declared : goal.heads_of-requires-clause-declared
heads_of-requires-clause-declared c =
    declared_in c.args.p.now c.args.t.now c.requires.judged.ready.filled c.args.id c.requires.filled c.row.result.now c.row.ensures c.in_ok-class.class c.in_ok-class.ensures c.in-Some.decl.now
    c.in-Some.ensures _ c.as_slice.ensures

pub returns-clause-told : goal.returns-clause-told
returns-clause-told c =
    heads_here c.args.p.now c.args.t.now c.requires.judged.ready.filled c.requires.judged.once c.args.id c.row.result.now c.row.ensures c.in_ok-class.class c.in_ok-class.ensures c.in-Some.decl.now
    c.in-Some.ensures _ c.as_slice.ensures _ c.heads_of.ensures.told
