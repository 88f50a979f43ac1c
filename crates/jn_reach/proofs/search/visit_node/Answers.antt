use Rattle.std.proofs.Common.{◌<◌, length, arith}
use Rattle.jn_reach.proofs.Visits.{Visited-new, Visited-old, none_at, found_at}
use Rattle.jn_reach.proofs.search.visit_node.Goals as goal

pub returns-in_ok-push : goal.returns-in_ok-push
returns-in_ok-push c =
    let within : c.args.node < length c.args.origins.now.items = omega (arith, c.requires, c.args.origins.now.ok.0) in
    record {
      visited = rw c.in_ok-push.ensures.items
          (Visited-new _ _ _ _ within (none_at _ _ _ _ within c.index.ensures c.is_none.ensures c.if-is_none.true));
    }

pub returns-else-is_none : goal.returns-else-is_none
returns-else-is_none c =
    let within : c.args.node < length c.args.origins.now.items = omega (arith, c.requires, c.args.origins.now.ok.0) in
    record { visited = Visited-old _ _ _ _ (found_at _ _ _ _ within c.index.ensures c.is_none.ensures c.if-is_none.false) }
