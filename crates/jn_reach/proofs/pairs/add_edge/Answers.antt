use Rattle.std.proofs.Common.{◌<◌, length, arith}
use Rattle.jn_reach.proofs.Edges.{AddsEdge-set}
use Rattle.jn_reach.proofs.pairs.add_edge.Goals as goal

pub returns : goal.returns
returns c =
    let within : c.args.from < length c.args.rows.now.items = omega (arith, c.requires, c.args.rows.now.ok.0) in
    record { added = AddsEdge-set _ _ _ _ _ within c.index_mut.ensures.value c.in_ok-push.ensures.items }
