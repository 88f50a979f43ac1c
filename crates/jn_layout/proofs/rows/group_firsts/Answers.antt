use Rattle.jn_layout.proofs.PartProof.{firsts_there}
use Rattle.jn_layout.proofs.rows.group_firsts.Goals as goal

pub returns : goal.returns
returns c = λ p f groups. firsts_there p c.args.t.now f c.in_ok-firsts.firsts.items (c.in_ok-firsts.ensures p c.args.g.now f groups c.in_ok-kin.ensures)
