use Rattle.std.proofs.Common.{◌<◌, arith}
use Rattle.jn_reach.proofs.Searches.{iff_true}
use Rattle.jn_names.proofs.Keeping.{ascend_steps}
use Rattle.jn_names.proofs.ascending.ascend.Goals as goal

pub returns : goal.returns
returns c = iff_true (ascend_steps c.args.ids.now (λ i j d e l.
    let within : j < c.loop-k.k = omega (arith, l, c.loop-k-test.false) in
    c.loop-k.invariant i j d e within))
