use Rattle.jn_reach.proofs.Pairings.{IsGraphOf-pair, no_pair, all_pairs, graph_in_range, pair_within}
use Rattle.jn_reach.proofs.pairs.edges_of.Goals as goal

pub loop-pair-init : goal.loop-pair-init
loop-pair-init c = no_pair _ _ c.in_ok-rows.ensures.exact

pub loop-pair-preserved : goal.loop-pair-preserved
loop-pair-preserved c = IsGraphOf-pair _ _ _ _ _ _ c.loop-pair-test.true c.loop-pair.invariant c.in_ok-add_edge.ensures.added

pub returns : goal.returns
returns c =
    let exact = all_pairs c.args.count c.loop-pair.pair-index c.args.pairs.now c.loop-pair.rows.items c.loop-pair-test.false c.loop-pair.invariant in
    record { exact = exact; within = graph_in_range _ _ _ exact (λ a b h. (pair_within _ _ c.requires a b h).1) }
