use Rattle.jn_reach.proofs.Searches.{not_when}
use Rattle.jn_sem.proofs.SharedLaws.{sharing_laws}
use Rattle.jn_layout.proofs.KinProof.{related_at}
use Rattle.jn_layout.proofs.PartProof.{ok_both, no_others, others_are, at_class}
use Rattle.jn_layout.proofs.parts.others_of.Goals as goal

pub returns-then-not-is_class : goal.returns-then-not-is_class
returns-then-not-is_class c =
    ok_both c.in_order.result c.in_order.ensures.same c.in_order.ensures.ordered
    (λ all same order. λ p g n f groups are e families R a.
    no_others p n R c.new-none.result.items all.items (not_when c.if-not-is_class.true (c.is_class.ensures.is p R f a)) c.new-none.ensures.items same order)

pub returns : goal.returns
returns c =
    ok_both c.in_order-2.result c.in_order-2.ensures.same c.in_order-2.ensures.ordered
    (λ all same order. λ p g n f groups are e families R a.
    let class = (c.is_class.ensures.is p R f a).0 c.if-not-is_class.false in
    let related = related_at p c.args.t.now g f groups c.args.kin.now are c.args.k R a class c.related_to.result.now c.related_to.ensures in
    others_are p n R c.related_to.result.now c.in_ok-pairs.pairs.items all.items
    (c.in_ok-pairs.ensures p n f e families R a (λ j S i b k. (related j S b k).0 i))
    (λ j S b r. (related j S (at_class c.args.t.now n e j S b) r.other).1 ((sharing_laws p).turned R S r)) same order)
