use Rattle.jn_header.proofs.ClassFaults.{home_here, no_home}
use Rattle.jn_header.proofs.classes.home_at.Goals as goal

pub returns-in-Some : goal.returns-in-Some
returns-in-Some c = λ filled R n.
    home_here c.args.p.now c.args.t.now filled c.args.id c.row.result.now c.row.ensures R n c.home_of.result c.in-Some.at c.in-Some.is (c.home_of.ensures c.requires.once)

pub returns-in-None : goal.returns-in-None
returns-in-None c = λ filled R n.
    absurd (no_home c.args.p.now c.args.t.now filled c.args.id c.row.result.now c.row.ensures R n c.home_of.result c.in-None.is (c.home_of.ensures c.requires.once))
