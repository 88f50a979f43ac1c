use Rattle.jn_header.proofs.ClassFaults.{class_told, package_told}
use Rattle.jn_header.proofs.classes.class_fault.Goals as goal

pub returns-in-Class : goal.returns-in-Class
returns-in-Class c = λ R n.
    class_told c.args.p.now c.args.t.now c.requires.bodies.members.filled c.args.id c.row.result.now c.row.ensures R n c.in-Class.is c.members_fault.result (c.members_fault.ensures R n)

pub returns-in-Package : goal.returns-in-Package
returns-in-Package c = λ R n.
    package_told c.args.p.now c.args.t.now c.requires.bodies.members.filled c.args.id c.row.result.now c.row.ensures R n c.in-Package.is
