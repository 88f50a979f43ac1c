use Rattle.jn_reach.proofs.Searches.{iff_true}
use Rattle.jn_names.proofs.TypeProof.{deep_one}
use Rattle.jn_names.proofs.types.one_depth.Goals as goal

pub returns : goal.returns
returns c = iff_true (deep_one c.args.bounds.now c.loop-i.i c.loop-i-test.false c.loop-i.invariant)
