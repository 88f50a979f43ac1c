use Rattle.jn_reach.proofs.Searches.{not_when}
use Rattle.jn_meaning.proofs.Families.{read_itself, read_nowhere, read_turned}
use Rattle.jn_meaning.proofs.Lists.{if_ok}
use Rattle.jn_meaning.proofs.getting.read_reference.Goals as goal

pub returns-then-not-hangs_on_this : goal.returns-then-not-hangs_on_this
returns-then-not-hangs_on_this c =
    read_itself c.args.w.now.program.now c.args.t.now.known.items c.args.id c.args.ty.now c.args.o c.args.other (not_when c.if-not-hangs_on_this.true c.hangs_on_this.ensures)

pub returns-in-None : goal.returns-in-None
returns-in-None c =
    read_nowhere c.args.w.now.program.now c.args.t.now.known.items c.args.id c.args.ty.now c.args.o c.args.other (c.hangs_on_this.ensures.0 c.if-not-hangs_on_this.false) c.in-None.ensures

pub returns-in-Some : goal.returns-in-Some
returns-in-Some c =
    if_ok c.viewed.result
    (λ m. read_turned c.args.w.now.program.now c.args.t.now.known.items c.args.id c.args.ty.now c.args.o c.args.other c.in-Some.family m
    (c.hangs_on_this.ensures.0 c.if-not-hangs_on_this.false) c.in-Some.ensures)
    c.viewed.ensures
