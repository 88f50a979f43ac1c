use Rattle.jn_layout.proofs.PartProof.{not_there}
use Rattle.jn_layout.proofs.parts.place_of.Goals as goal

pub returns-clause-none : goal.returns-clause-none
returns-clause-none c = not_there c.args.firsts.now c.args.first c.loop-place.place c.loop-place-test.false c.loop-place.invariant
