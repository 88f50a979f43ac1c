use Rattle.jn_share.specs.Parting.{SamePart}
use Rattle.jn_share.proofs.SameFields.{apart_places, one_entry}
use Rattle.jn_share.proofs.alike.same_typed.Goals as goal

pub returns-then-not-one_place-clause-no : goal.returns-then-not-one_place-clause-no
returns-then-not-one_place-clause-no c = λ _ types p V W asked ready m n one two f Q R a b.
    apart_places p c.args.t.now asked.filled (SamePart c.args.t.now.known.items c.args.parts.now) V W Q R f c.args.x.now c.args.y.now c.one_place.result
    c.if-not-one_place.true c.one_place.ensures a b

pub returns-clause-yes : goal.returns-clause-yes
returns-clause-yes c = λ e types p V W asked ready m n one two f Q R a b.
    c.both_cover.ensures.yes e types p V W asked ready m n one two f Q a
    (one_entry p asked.declarations c.args.t.now.known.items V W Q R f c.args.x.now c.args.y.now (c.one_place.ensures.0 c.if-not-one_place.false) a b)

pub returns-clause-no : goal.returns-clause-no
returns-clause-no c = λ e types p V W asked ready m n one two f Q R a b.
    c.both_cover.ensures.no e types p V W asked ready m n one two f Q a
    (one_entry p asked.declarations c.args.t.now.known.items V W Q R f c.args.x.now c.args.y.now (c.one_place.ensures.0 c.if-not-one_place.false) a b)
