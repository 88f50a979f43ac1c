use Rattle.std.proofs.Common.{◌<◌, ◌≤◌, arith}
use Rattle.jn_reach.proofs.Pairings.{graph_in_range, pair_either_within, starts_within, has_first, is_first, same_first, AreFirsts-more, firsts_within}
use Rattle.jn_reach.proofs.Visits.{found_is_some}
use Rattle.jn_reach.proofs.pairs.class_firsts.Goals as goal

pub origins-requires-clause-edges : goal.origins-requires-clause-edges
origins-requires-clause-edges c =
    rw c.deref.ensures.value (graph_in_range _ _ _ c.in_ok-edges.ensures.exact (pair_either_within _ _ c.requires))

pub origins-requires-clause-starts : goal.origins-requires-clause-starts
origins-requires-clause-starts c =
    rw (c.deref.ensures.value, c.deref-2.ensures.value)
    (starts_within _ _ _ (c.in_ok-edges.ensures.exact).long c.in_ok-starts.ensures.len c.in_ok-starts.ensures.at)

pub unwrap-requires : goal.unwrap-requires
unwrap-requires c =
    let are = rw (c.deref.ensures.value, c.deref-2.ensures.value) at c.in_ok-origins.ensures.exact in
    let within : c.loop-origin.origin-index < c.args.count = omega (arith, c.loop-origin-test.true, c.deref-origin-items.ensures.len, are.long, (c.in_ok-edges.ensures.exact).long) in
    rw c.deref-origin-items.ensures.value
    (found_is_some c.in_ok-origins.origins.items c.loop-origin.origin-index (has_first _ _ _ _ _ c.in_ok-edges.ensures.exact c.in_ok-starts.ensures.len c.in_ok-starts.ensures.at are _ within))

pub loop-origin-preserved : goal.loop-origin-preserved
loop-origin-preserved c =
    let are = rw (c.deref.ensures.value, c.deref-2.ensures.value) at c.in_ok-origins.ensures.exact in
    rw c.in_ok-push.ensures.items (AreFirsts-more _ _ _ _ c.loop-origin.invariant (
    is_first _ _ _ _ _ c.in_ok-edges.ensures.exact c.in_ok-starts.ensures.len c.in_ok-starts.ensures.at are _ _
    (rw c.deref-origin-items.ensures.value at c.unwrap.ensures)
    ))

pub returns-clause-classes : goal.returns-clause-classes
returns-clause-classes c a b l m =
    let are = rw (c.deref.ensures.value, c.deref-2.ensures.value) at c.in_ok-origins.ensures.exact in
    let done : c.args.count ≤ c.loop-origin.origin-index =
    omega (arith, c.loop-origin-test.false, c.deref-origin-items.ensures.len, c.in_ok-origins.origins.ok.0, are.long, (c.in_ok-edges.ensures.exact).long) in
    let before_a : a < c.loop-origin.origin-index = omega (arith, l, done) in
    let before_b : b < c.loop-origin.origin-index = omega (arith, m, done) in
    same_first _ a b _ _ (c.loop-origin.invariant.each a before_a) (c.loop-origin.invariant.each b before_b)

pub returns-clause-within : goal.returns-clause-within
returns-clause-within c k d l =
    let are = rw (c.deref.ensures.value, c.deref-2.ensures.value) at c.in_ok-origins.ensures.exact in
    let done : c.loop-origin.origin-index ≤ c.args.count =
    omega (arith, c.loop-origin.auto.origin-index-end, c.deref-origin-items.ensures.len, c.in_ok-origins.origins.ok.0, are.long, (c.in_ok-edges.ensures.exact).long) in
    omega (arith, done, firsts_within _ _ _ c.loop-origin.invariant k d l)
