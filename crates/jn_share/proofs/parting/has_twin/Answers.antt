use Rattle.std.proofs.Common.{[], ◌∷◌, ap, ◌∙◌, slice_get}
use Rattle.jn_share.proofs.Covers.{no_twin, twin_is}
use Rattle.jn_share.proofs.parting.has_twin.Goals as goal

pub returns-in-None-counterpart : goal.returns-in-None-counterpart
returns-in-None-counterpart c = λ p U T Y f groups n m e k.
    no_twin p c.args.t.now c.args.g.now f groups c.args.parts.now c.args.u U T Y c.args.ty.now n e c.args.family k
    (c.in-None-counterpart.ensures p c.args.t.now.known.items U (Y ∷ []) groups (ap (slice_get c.args.t.now.known.items) c.in-Some.ensures.some.0 ∙ n) k)

pub returns-in-Some-counterpart : goal.returns-in-Some-counterpart
returns-in-Some-counterpart c = λ p U T Y f groups n m e k.
    twin_is p c.args.t.now c.args.g.now f groups c.args.parts.now c.args.u U T Y c.args.ty.now n e c.args.family k c.in-Some-counterpart.x c.is_twin.result
    (c.in-Some-counterpart.ensures p c.args.t.now.known.items U (Y ∷ []) groups (ap (slice_get c.args.t.now.known.items) c.in-Some.ensures.some.0 ∙ n) k)
    (λ X x. c.is_twin.ensures p X T f x m)
