use Rattle.std.proofs.Common.{subst, sym, get_or, ℕ, ◌+◌}
use Rattle.jn_reach.proofs.Searches.{not_when}
use Rattle.jn_share.specs.Counting.{Counts, AmongOthers}
use Rattle.jn_share.proofs.EntryLists.{FirstOf, others_start, others_skip, others_more, others_all}
use Rattle.jn_share.proofs.Covers.{path_there}
use Rattle.jn_share.proofs.entries.others.Goals as goal
use Rattle.jn_share.proofs.entries.others.Goals.{then-is_other, else-is_other}

pub loop-r-init : goal.loop-r-init
loop-r-init c = λ p f. others_start p c.args.t.now.known.items c.args.among.now c.args.k

pub loop-r-preserved : goal.loop-r-preserved
loop-r-preserved c = λ p f.
    let r = get_or c.args.among.now c.loop-r.r-index 0 in
    let C = AmongOthers p c.args.t.now.known.items (FirstOf c.args.among.now (c.loop-r.r-index + 1)) c.args.k in
    elim c.if-is_other.branch [
      | then-is_other w ↦ subst (λ (n : ℕ). Counts C n) (sym w.count-is)
          (let at = path_there p c.args.t.now f r (c.is_other.ensures.within w.if-is_other.true) in
          let h = (c.is_other.ensures.is p at.0 f at.1).0 w.if-is_other.true in
          others_more p c.args.t.now f c.args.among.now c.args.k c.loop-r.r-index c.loop-r-test.true c.requires c.loop-r.count w.plus-count.result at.0 at.1 h.0 h.1
          (λ a b x y. w.plus-count.ensures a b x y) (c.loop-r.invariant p f))
      | else-is_other w ↦ subst (λ (n : ℕ). Counts C n) (sym w.count-is)
          (others_skip p c.args.t.now f c.args.among.now c.args.k c.loop-r.r-index c.loop-r-test.true c.loop-r.count
          (λ S at h. not_when w.if-is_other.false (c.is_other.ensures.is p S f at) h) (c.loop-r.invariant p f))
    ]

pub returns : goal.returns
returns c = λ p f. others_all p c.args.t.now.known.items c.args.among.now c.args.k c.loop-r.r-index c.loop-r.count c.loop-r-test.false (c.loop-r.invariant p f)
