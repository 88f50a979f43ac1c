use Rattle.std.proofs.Common.{get_or, arith}
use Rattle.std.proofs.lemmas.List.Elements.{Contains-get_or}
use Rattle.jn_closure.proofs.Marking.{marked_within}
use Rattle.jn_closure.proofs.marks.clear.Goals as goal

pub index_mut-requires : goal.index_mut-requires
index_mut-requires c =
    let node = get_or c.args.nodes.now c.loop-node.node-index 0 in
    let among = Contains-get_or c.args.nodes.now c.loop-node.node-index 0 c.loop-node-test.true in
    let before = marked_within c.args.marks.now.items node ((c.requires.exact node).0 among) in
    omega (arith, before, c.loop-node.invariant.long, c.loop-node.marks.ok.0)
