use Rattle.jn_share.specs.Parting.{SamePart, by_field}
use Rattle.jn_share.proofs.FieldLists.{decls_at, same_more, same_all}
use Rattle.jn_share.proofs.alike.same_fields.Goals as goal

pub returns-then-not-same_field-clause-no : goal.returns-then-not-same_field-clause-no
returns-then-not-same_field-clause-no c = λ _ p V W asked ready m n one two fields a b.
    let d = decls_at p c.args.t.now.known.items c.args.types.now.list.items V W fields c.args.dvs.now c.args.dws.now a b c.loop-i.i c.loop-i-test.true in
    by_field d.0 (c.same_field.ensures.no c.if-not-same_field.true p V W asked ready m n one two d.0 (d.2, d.3))

pub loop-i-preserved : goal.loop-i-preserved
loop-i-preserved c = λ p V W asked ready m n one two fields a b.
    same_more p c.args.t.now.known.items c.args.types.now.list.items V W fields c.args.dvs.now c.args.dws.now a b (SamePart c.args.t.now.known.items c.args.parts.now)
    c.loop-i.i c.loop-i-test.true (λ f d. c.same_field.ensures.yes c.if-not-same_field.false p V W asked ready m n one two f d)
    (c.loop-i.invariant p V W asked ready m n one two fields a b)

pub returns-clause-yes : goal.returns-clause-yes
returns-clause-yes c = λ _ p V W asked ready m n one two fields a b.
    same_all p c.args.t.now.known.items c.args.types.now.list.items V W fields c.args.dvs.now c.args.dws.now a b (SamePart c.args.t.now.known.items c.args.parts.now)
    c.loop-i.i c.loop-i-test.false (c.loop-i.invariant p V W asked ready m n one two fields a b)
