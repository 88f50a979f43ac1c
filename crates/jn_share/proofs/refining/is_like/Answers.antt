use Rattle.std.proofs.Common.{ap, ◌∙◌, slice_get}
use Rattle.jn_share.proofs.refining.is_like.Goals as goal

pub returns-then-is_class-clause-yes : goal.returns-then-is_class-clause-yes
returns-then-is_class-clause-yes c = λ e p V asked ready at one R here.
    let known = c.args.t.now.known.items in
    let k = (c.is_class.ensures p R asked.filled here).0 c.if-is_class.true in
    (k, c.alike.ensures.yes e p R V asked ready (ap (slice_get known) c.in-Some.ensures.some.0 ∙ here) (ap (slice_get known) c.in-Some-filled.ensures.some.0 ∙ at) k one)

pub returns-then-is_class-clause-no : goal.returns-then-is_class-clause-no
returns-then-is_class-clause-no c = λ e p V asked ready at one R here k.
    let known = c.args.t.now.known.items in
    c.alike.ensures.no e p R V asked ready (ap (slice_get known) c.in-Some.ensures.some.0 ∙ here) (ap (slice_get known) c.in-Some-filled.ensures.some.0 ∙ at) k one
