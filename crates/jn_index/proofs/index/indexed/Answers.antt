use Rattle.jn_index.specs.Index.{keys_in}
use Rattle.jn_index.proofs.Places.{are_indexed}
use Rattle.jn_index.proofs.index.indexed.Goals as goal

pub returns : goal.returns
returns c = are_indexed (keys_in c.args.keys.items) c.in_ok-all.all.items _ c.in_ok-all.ensures c.in_ok-sort.ensures.permutation c.in_ok-sort.ensures.sorted
