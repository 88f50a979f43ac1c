use Rattle.jn_header.proofs.Checking.{refused_over, refused_cyclic, refused_mixed}
use Rattle.jn_header.proofs.check.refused.Goals as goal

pub returns-in-TooMany : goal.returns-in-TooMany
returns-in-TooMany c = refused_over c.args.p.now c.requires.once c.args.fault c.in-TooMany.path c.requires.universe c.in-TooMany.is c.at_home.result c.at_home.ensures

pub returns-in-Cycle : goal.returns-in-Cycle
returns-in-Cycle c = refused_cyclic c.args.p.now c.requires.once c.args.fault c.in-Cycle.path c.requires.universe c.in-Cycle.is c.at_home-in-Cycle.result c.at_home-in-Cycle.ensures

pub returns-in-Kind : goal.returns-in-Kind
returns-in-Kind c = refused_mixed c.args.p.now c.requires.once c.args.fault c.in-Kind.path c.requires.universe c.in-Kind.is c.at_home-in-Kind.result c.at_home-in-Kind.ensures
