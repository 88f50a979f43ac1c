use Rattle.std.proofs.lemmas.Option.{IfSome_then}
use Rattle.jn_layout.proofs.KinProof.{first_for, some_first, none_then}
use Rattle.jn_layout.proofs.kin.first_of.Goals as goal

pub returns-clause-some : goal.returns-clause-some
returns-clause-some c =
    IfSome_then c.first_among.result c.first_among.ensures.some
    (λ j h. λ p g f groups are V a k.
    first_for p c.args.t.now g f groups c.args.kin.now are c.args.k j V a k c.related_to.result.now c.related_to.ensures h.0 (h.1 p g f groups are))

pub returns-clause-none : goal.returns-clause-none
returns-clause-none c =
    none_then c.first_among.result c.first_among.ensures.none
    (λ h. λ p g f groups are V a k.
    some_first p c.args.t.now g f groups c.args.kin.now are c.args.k V a k c.related_to.result.now c.related_to.ensures (λ j. h p g f groups are j))
