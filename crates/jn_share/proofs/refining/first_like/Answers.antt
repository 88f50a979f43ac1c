use Rattle.std.proofs.Common.{get_or, inr, ◌≤◌, arith}
use Rattle.jn_share.specs.Parting.{SamePart, NotAlike}
use Rattle.jn_base.specs.Paths.{Path}
use Rattle.jn_share.proofs.Covers.{path_there}
use Rattle.jn_share.proofs.Steps.{passed_all, passed_end, unlike_more, itself_like}
use Rattle.jn_share.proofs.refining.first_like.Goals as goal

pub returns-then-r-v-clause-is : goal.returns-then-r-v-clause-is
returns-then-r-v-clause-is c = λ p V asked ready at k.
    let known = c.args.t.now.known.items in
    record {
      is = itself_like p known (SamePart known c.args.parts.now) V c.args.v at k;
      first = passed_all p known c.args.among.now (λ (X : Path). NotAlike p (SamePart known c.args.parts.now) X V) c.requires c.loop-r.r-index c.args.v c.loop-r-test.true c.if-r-v.true
          (c.loop-r.invariant p V asked ready at k);
    }

pub returns-then-is_like-clause-is : goal.returns-then-is_like-clause-is
returns-then-is_like-clause-is c = λ p V asked ready at k.
    let known = c.args.t.now.known.items in
    let r = get_or c.args.among.now c.loop-r.r-index 0 in
    let R = path_there p c.args.t.now asked.filled r (c.is_like.ensures.within c.if-is_like.true) in
    let a = c.is_like.ensures.yes c.if-is_like.true p V asked ready at k R.0 R.1 in
    let le : r ≤ r = omega arith in
    record {
      is = record { path = R.0; at = R.1; class = a.0; like = inr a.1 };
      first = passed_all p known c.args.among.now (λ (X : Path). NotAlike p (SamePart known c.args.parts.now) X V) c.requires c.loop-r.r-index r c.loop-r-test.true le
          (c.loop-r.invariant p V asked ready at k);
    }

pub loop-r-preserved : goal.loop-r-preserved
loop-r-preserved c = λ p V asked ready at k.
    let known = c.args.t.now.known.items in
    unlike_more p known c.args.among.now (λ (X : Path). NotAlike p (SamePart known c.args.parts.now) X V) c.loop-r.r-index
    (λ X x d. c.is_like.ensures.no c.if-is_like.false p V asked ready at k X x d) (c.loop-r.invariant p V asked ready at k)

pub returns-clause-is : goal.returns-clause-is
returns-clause-is c = λ p V asked ready at k.
    let known = c.args.t.now.known.items in
    record {
      is = itself_like p known (SamePart known c.args.parts.now) V c.args.v at k;
      first = passed_end p known c.args.among.now (λ (X : Path). NotAlike p (SamePart known c.args.parts.now) X V) c.loop-r.r-index c.args.v c.loop-r-test.false (c.loop-r.invariant p V asked ready at k);
    }
