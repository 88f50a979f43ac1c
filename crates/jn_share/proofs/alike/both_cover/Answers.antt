use Rattle.jn_share.specs.Parting.{SamePart}
use Rattle.jn_share.proofs.SameFields.{hangs_in, fixed_same, covered_same, not_forth, not_back}
use Rattle.jn_share.proofs.alike.both_cover.Goals as goal

pub returns-then-not-hangs_on_this-clause-yes : goal.returns-then-not-hangs_on_this-clause-yes
returns-then-not-hangs_on_this-clause-yes c = λ _ types p V W asked ready m n one two f Q a b.
    let known = c.args.t.now.known.items in
    fixed_same p asked.declarations known (SamePart known c.args.parts.now) V W Q f c.args.x.now a b c.hangs_on_this.result c.if-not-hangs_on_this.true c.hangs_on_this.ensures

pub returns-then-not-covers-clause-no : goal.returns-then-not-covers-clause-no
returns-then-not-covers-clause-no c = λ _ types p V W asked ready m n one two f Q a b.
    let known = c.args.t.now.known.items in
    let h = c.hangs_on_this.ensures.0 c.if-not-hangs_on_this.false in
    not_forth p asked.declarations known (SamePart known c.args.parts.now) V W Q f c.args.x.now a b h
    (c.covers.ensures.no c.if-not-covers.true types p V W asked ready m n one two (hangs_in p known V Q f c.args.x.now a h))

pub returns-clause-yes : goal.returns-clause-yes
returns-clause-yes c = λ e types p V W asked ready m n one two f Q a b.
    let known = c.args.t.now.known.items in
    let h = c.hangs_on_this.ensures.0 c.if-not-hangs_on_this.false in
    covered_same p asked.declarations known (SamePart known c.args.parts.now) V W Q f c.args.x.now a b
    (c.covers.ensures.yes c.if-not-covers.false types p V W asked ready m n one two (hangs_in p known V Q f c.args.x.now a h))
    (c.covers-2.ensures.yes e types p W V asked ready n m two one (hangs_in p known W Q f c.args.x.now b h))

pub returns-clause-no : goal.returns-clause-no
returns-clause-no c = λ e types p V W asked ready m n one two f Q a b.
    let known = c.args.t.now.known.items in
    let h = c.hangs_on_this.ensures.0 c.if-not-hangs_on_this.false in
    not_back p asked.declarations known (SamePart known c.args.parts.now) V W Q f c.args.x.now a b h
    (c.covers-2.ensures.no e types p W V asked ready n m two one (hangs_in p known W Q f c.args.x.now b h))
