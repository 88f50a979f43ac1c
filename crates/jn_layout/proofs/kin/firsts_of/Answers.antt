use Rattle.std.proofs.Common.{ap, arith, length, List}
use Rattle.std.proofs.lemmas.Option.{slice_get_within}
use Rattle.jn_reach.proofs.Listing.{Listing-none, Listing-skip, Listing-push, Listing-done}
use Rattle.jn_reach.proofs.Searches.{not_when}
use Rattle.jn_base.specs.Paths.{shown}
use Rattle.jn_layout.proofs.kin.firsts_of.Goals as goal
use Rattle.jn_layout.proofs.kin.firsts_of.Goals.{then-is_first+in_ok-push, else-is_first}

pub loop-k-init : goal.loop-k-init
loop-k-init c = λ p g f groups are. Listing-none _ _ c.new-all.ensures.items

pub loop-k-preserved : goal.loop-k-preserved
loop-k-preserved c = elim c.if-is_first.branch [
  | then-is_first+in_ok-push w ↦ λ p g f groups are.
      rw (w.all-is, w.in_ok-push.ensures.items)
      (Listing-push _ _ _ ((c.is_first.ensures p g f groups are).0 w.if-is_first.true) (c.loop-k.invariant p g f groups are))
  | else-is_first w ↦ λ p g f groups are.
      rw w.all-is
      (Listing-skip _ _ _ (not_when w.if-is_first.false (c.is_first.ensures p g f groups are)) (c.loop-k.invariant p g f groups are))
]

pub returns : goal.returns
returns c = λ p g f groups are.
    Listing-done _ _ _ (λ k x.
    let l = slice_get_within c.args.t.now.known.items k (shown x.class) x.at in
    omega (arith, l, c.loop-k-test.false, ap (λ (xs : List _). length xs) c.known-k-end.ensures))
    (c.loop-k.invariant p g f groups are)
