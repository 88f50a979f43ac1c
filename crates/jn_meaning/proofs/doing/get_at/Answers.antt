use Rattle.jn_meaning.proofs.Acting.{gets_at}
use Rattle.jn_meaning.proofs.doing.get_at.Goals as goal

pub returns-clause-did : goal.returns-clause-did
returns-clause-did c =
    gets_at c.args.w.now.program.now c.args.t.now.known.items c.args.h.now c.args.field c.args.o c.args.id c.args.f.now c.go_on.new.f c.in_ok-made.made c.in_ok-did.did
    c.in_ok-made.ensures.told c.in_ok-did.ensures
