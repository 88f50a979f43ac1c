use Rattle.std.proofs.Common.{inl, inr, ap, ◌∙◌, slice_get}
use Rattle.jn_share.proofs.firsts.has_same.Goals as goal

pub returns-in-None-decl_of-clause-no : goal.returns-in-None-decl_of-clause-no
returns-in-None-decl_of-clause-no c = λ _ p V asked ready at one R here d k.
    let n = ap (slice_get c.args.t.now.known.items) c.in-Some.ensures.some.0 ∙ here in
    inl (c.in-None-decl_of.ensures p c.args.types.now R asked.filled ready n)

pub returns-in-Some-decl_of-clause-yes : goal.returns-in-Some-decl_of-clause-yes
returns-in-Some-decl_of-clause-yes c = λ e p V asked ready at one R here d.
    let n = ap (slice_get c.args.t.now.known.items) c.in-Some.ensures.some.0 ∙ here in
    let k = (c.is_class.ensures p R asked.filled here).0 c.if-not-is_class.false in
    (k, c.same_field.ensures.yes e p R V asked ready n at k one c.args.field (c.in-Some-decl_of.ensures p c.args.types.now R asked.filled ready n, d))

pub returns-in-Some-decl_of-clause-no : goal.returns-in-Some-decl_of-clause-no
returns-in-Some-decl_of-clause-no c = λ e p V asked ready at one R here d k.
    let n = ap (slice_get c.args.t.now.known.items) c.in-Some.ensures.some.0 ∙ here in
    inr (c.same_field.ensures.no e p R V asked ready n at k one c.args.field (c.in-Some-decl_of.ensures p c.args.types.now R asked.filled ready n, d))
