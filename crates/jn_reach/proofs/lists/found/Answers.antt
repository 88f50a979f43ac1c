use Rattle.std.proofs.Common.{sym, ◌∙◌, arith}
use Rattle.jn_reach.proofs.Listing.{Listing-none, Listing-skip, Listing-push, Listing-done}
use Rattle.jn_reach.proofs.Spreading.{IsFound-in}
use Rattle.jn_reach.proofs.Visits.{is_full, is_empty, no_origin}
use Rattle.jn_reach.proofs.lists.found.Goals as goal
use Rattle.jn_reach.proofs.lists.found.Goals.{then-is_some+in_ok-push, else-is_some}

pub loop-node-init : goal.loop-node-init
loop-node-init c = Listing-none _ _ c.new-nodes.ensures.items

pub loop-node-preserved : goal.loop-node-preserved
loop-node-preserved c = elim c.if-is_some.branch [
  | then-is_some+in_ok-push w ↦
      rw (w.nodes-is, w.in_ok-push.ensures.items)
      (Listing-push _ _ _ (is_full _ (sym c.is_some.ensures ∙ w.if-is_some.true)) c.loop-node.invariant)
  | else-is_some w ↦
      rw w.nodes-is
      (Listing-skip _ _ _ (λ f. no_origin _ f.0 (is_empty _ (sym c.is_some.ensures ∙ w.if-is_some.false)) f.1) c.loop-node.invariant)
]

pub returns : goal.returns
returns c = record {
  exact = Listing-done _ _ _ (λ b f. omega (arith, IsFound-in c.args.origins.now b f, c.loop-node-test.false)) c.loop-node.invariant;
}
