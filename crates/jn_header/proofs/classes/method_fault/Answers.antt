use Rattle.jn_header.proofs.ClassFaults.{override_refused, conflict_refused}
use Rattle.jn_header.proofs.classes.method_fault.Goals as goal

pub returns-in-Some : goal.returns-in-Some
returns-in-Some c = λ R n bad.
    override_refused c.args.p.now c.requires.bodies.declarations c.requires.bodies.members.filled.table.named R c.args.m c.in-Some.field-0.now c.place_of-at.result
    (c.in-Some.ensures c.args.p.now c.args.t.now R c.requires.bodies n) (c.place_of-at.ensures R n) bad

pub returns-in-None : goal.returns-in-None
returns-in-None c = λ R n bad.
    conflict_refused c.args.p.now c.requires.bodies.declarations c.requires.bodies.members.filled.table.named R c.args.m c.place_of-at.result
    (c.in-None.ensures c.args.p.now c.args.t.now R c.requires.bodies n) (c.place_of-at.ensures R n) bad
