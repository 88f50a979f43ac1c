use Rattle.jn_header.specs.Classes.{of_home}
use Rattle.jn_header.proofs.ClassFaults.{place_there}
use Rattle.jn_header.proofs.classes.place_of.Goals as goal

pub returns-in-Some : goal.returns-in-Some
returns-in-Some c = λ R n.
    place_there c.args.p.now c.requires.bodies.declarations c.requires.bodies.members.filled.table.named R c.args.m c.in-Some.head.now
    (c.in-Some.ensures c.args.p.now c.args.t.now R c.requires.bodies n)

pub returns-in-None : goal.returns-in-None
returns-in-None c = λ R n.
    of_home (c.in-None.ensures c.args.p.now c.args.t.now R c.requires.bodies n) (c.home_at.ensures c.requires.bodies.members.filled R n)
