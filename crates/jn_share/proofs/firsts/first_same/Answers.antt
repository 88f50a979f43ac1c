use Rattle.std.proofs.Common.{◌≤◌, get_or, arith}
use Rattle.jn_base.specs.Paths.{Path}
use Rattle.jn_share.specs.Firsts.{HasOther}
use Rattle.jn_share.specs.Parting.{SamePart}
use Rattle.jn_share.proofs.Covers.{path_there}
use Rattle.jn_share.proofs.FirstSlots.{first_itself, first_found, among_here}
use Rattle.jn_share.proofs.Steps.{passed_all, passed_end, unlike_more}
use Rattle.jn_share.proofs.firsts.first_same.Goals as goal

pub returns-then-r-v : goal.returns-then-r-v
returns-then-r-v c = λ p V asked ready at one settled related d.
    let known = c.args.t.now.known.items in
    first_itself p c.args.t.now asked.filled asked.passes c.args.parts.now settled c.args.among.now V related c.args.field one (record { at = d.class; declares = d.declares })
    c.args.v.0 at
    (passed_all p known c.args.among.now (λ (X : Path). HasOther p (SamePart known c.args.parts.now) V c.args.field X) c.requires c.loop-r.r-index c.args.v.0 c.loop-r-test.true c.if-r-v.true
    (c.loop-r.invariant p V asked ready at one d))

pub returns-then-has_same : goal.returns-then-has_same
returns-then-has_same c = λ p V asked ready at one settled related d.
    let known = c.args.t.now.known.items in
    let r = get_or c.args.among.now c.loop-r.r-index 0 in
    let R = path_there p c.args.t.now asked.filled r (c.has_same.ensures.within c.if-has_same.true) in
    let a = c.has_same.ensures.yes c.if-has_same.true p V asked ready at one R.0 R.1 d in
    let le : r ≤ r = omega arith in
    first_found p c.args.t.now asked.filled asked.passes c.args.parts.now settled c.args.among.now V related c.args.field one (record { at = d.class; declares = d.declares })
    r R.0 R.1 a.0 (among_here c.args.among.now c.loop-r.r-index c.loop-r-test.true) a.1
    (passed_all p known c.args.among.now (λ (X : Path). HasOther p (SamePart known c.args.parts.now) V c.args.field X) c.requires c.loop-r.r-index r c.loop-r-test.true le
    (c.loop-r.invariant p V asked ready at one d))

pub loop-r-preserved : goal.loop-r-preserved
loop-r-preserved c = λ p V asked ready at one d.
    let known = c.args.t.now.known.items in
    unlike_more p known c.args.among.now (λ (X : Path). HasOther p (SamePart known c.args.parts.now) V c.args.field X) c.loop-r.r-index
    (λ X x k. c.has_same.ensures.no c.if-has_same.false p V asked ready at one X x d k) (c.loop-r.invariant p V asked ready at one d)

pub returns : goal.returns
returns c = λ p V asked ready at one settled related d.
    let known = c.args.t.now.known.items in
    first_itself p c.args.t.now asked.filled asked.passes c.args.parts.now settled c.args.among.now V related c.args.field one (record { at = d.class; declares = d.declares })
    c.args.v.0 at
    (passed_end p known c.args.among.now (λ (X : Path). HasOther p (SamePart known c.args.parts.now) V c.args.field X) c.loop-r.r-index c.args.v.0 c.loop-r-test.false
    (c.loop-r.invariant p V asked ready at one d))
