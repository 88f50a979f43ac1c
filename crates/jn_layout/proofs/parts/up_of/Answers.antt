use Rattle.jn_layout.proofs.PartProof.{up_none, up_some}
use Rattle.jn_layout.proofs.parts.up_of.Goals as goal

pub returns-in-None : goal.returns-in-None
returns-in-None c = λ p t n R e is. up_none t.known.items n R c.args.row.now.up is.up c.in-None.is

pub returns-in-Some : goal.returns-in-Some
returns-in-Some c = λ p t n R e is. up_some t n e R c.args.row.now.up c.in-Some.up is.up c.in-Some.is
