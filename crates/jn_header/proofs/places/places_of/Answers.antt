use Rattle.std.proofs.Common.{nat_eq, get_or}
use Rattle.indexmap.specs.IndexMap.{get}
use Rattle.jn_header.proofs.Placing.{placed_more, placed_all, read_at}
use Rattle.jn_header.proofs.places.places_of.Goals as goal

pub loop-k-preserved : goal.loop-k-preserved
loop-k-preserved c =
    placed_more c.args.heads.now c.loop-k.k (get_or c.args.heads.now c.loop-k.k c.index-heads-k.result) (get nat_eq c.loop-k.places) (get nat_eq c.insert.new.self)
    (read_at c.args.heads.now c.loop-k.k c.index-heads-k.result c.loop-k-test.true) c.loop-k.invariant c.in_ok-insert.ensures.updates.0

pub returns : goal.returns
returns c = placed_all c.args.heads.now c.loop-k.k (get nat_eq c.loop-k.places) c.loop-k-test.false c.loop-k.invariant
