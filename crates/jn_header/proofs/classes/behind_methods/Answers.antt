use Rattle.jn_header.proofs.ClassFaults.{field_told, constructor_told}
use Rattle.jn_header.proofs.Numbers.{universe_of}
use Rattle.jn_header.proofs.classes.behind_methods.Goals as goal

pub returns-in-Some : goal.returns-in-Some
returns-in-Some c = λ R n methods.
    field_told c.args.p.now R methods c.in-Some.field c.home_at.result (c.in-Some.ensures c.args.p.now R c.requires.bodies.members n)
    (c.home_at.ensures c.requires.bodies.members.filled R n)

pub returns-in-None : goal.returns-in-None
returns-in-None c = λ R n methods.
    constructor_told c.args.p.now R (universe_of c.args.p.now c.args.t.now c.requires.bodies.members.filled c.args.id R n) methods
    (c.in-None.ensures c.args.p.now R c.requires.bodies.members n) c.constructor_fault.result (c.constructor_fault.ensures R n)
