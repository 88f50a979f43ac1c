use Rattle.jn_header.proofs.ClassFaults.{method_told}
use Rattle.jn_header.proofs.classes.members_fault.Goals as goal

pub returns-in-Some : goal.returns-in-Some
returns-in-Some c = λ R n.
    method_told c.args.p.now R c.in-Some.m c.method_fault.result (c.in-Some.ensures c.args.p.now R c.requires.bodies n) (c.method_fault.ensures R n)
