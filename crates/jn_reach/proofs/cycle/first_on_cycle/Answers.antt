use Rattle.std.proofs.Common.{refl, arith}
use Rattle.std.proofs.lemmas.Option.{slice_get_read}
use Rattle.jn_reach.proofs.Searches.{not_when}
use Rattle.jn_reach.proofs.Cycles.{steps_by_row, none_cyclic, steps_within}
use Rattle.jn_reach.proofs.cycle.first_on_cycle.Goals as goal

pub returns-then-leads_to-clause-some : goal.returns-then-leads_to-clause-some
returns-then-leads_to-clause-some c =
    let row = c.index-edges-node in
    (steps_by_row _ _ _ row.result c.requires.edges c.requires.closure (slice_get_read _ _ _ _ refl c.loop-node-test.true row.is)).0
    (rw (← c.deref.ensures.value) (c.leads_to.ensures.0 c.if-leads_to.true))

pub loop-node-preserved : goal.loop-node-preserved
loop-node-preserved c =
    let row = c.index-edges-node in
    none_cyclic _ _
    (λ s. (rw c.deref.ensures.value at (not_when c.if-leads_to.false c.leads_to.ensures))
    ((steps_by_row _ _ _ row.result c.requires.edges c.requires.closure (slice_get_read _ _ _ _ refl c.loop-node-test.true row.is)).1 s))
    c.loop-node.invariant

pub returns-clause-none : goal.returns-clause-none
returns-clause-none c k s =
    c.loop-node.invariant k (let l = steps_within c.args.edges.now k s in omega (arith, l, c.loop-node-test.false)) s
