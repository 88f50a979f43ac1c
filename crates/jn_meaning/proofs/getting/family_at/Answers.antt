use Rattle.jn_meaning.proofs.Families.{family_none, family_some}
use Rattle.jn_meaning.proofs.getting.family_at.Goals as goal

pub returns-in-None : goal.returns-in-None
returns-in-None c = family_none c.args.t.now.known.items c.args.id c.names_at.result.now c.names_at.ensures c.in-None.ensures

pub returns-in-Some : goal.returns-in-Some
returns-in-Some c = family_some c.args.t.now.known.items c.args.id c.names_at.result.now c.in-Some.name.now c.names_at.ensures c.in-Some.ensures
