use Rattle.jn_layout.proofs.PartProof.{no_own, no_other, other_same, other_apart}
use Rattle.jn_layout.proofs.parts.other_pair.Goals as goal

pub returns-in-None : goal.returns-in-None
returns-in-None c = λ t p n f e all R S a b r. absurd (no_own p t n f e c.args.families.now all c.args.k c.args.j R S a b r c.in-None.ensures)

pub returns-in-None-at : goal.returns-in-None-at
returns-in-None-at c = λ t p n f e all R S a b r. absurd (no_other p t n f e c.args.families.now all c.args.k c.args.j R S a b r c.in-None-at.ensures)

pub returns-then-own-family : goal.returns-then-own-family
returns-then-own-family c = λ t p n f e all R S a b r.
    other_same p t n f e c.args.families.now all c.args.k c.args.j R S a b r c.in-Some.own.now c.in-Some-at.family.now c.in-Some.ensures c.in-Some-at.ensures c.if-own-family.true

pub returns-else-own-family : goal.returns-else-own-family
returns-else-own-family c = λ t p n f e all R S a b r.
    other_apart p t n f e c.args.families.now all c.args.k c.args.j R S a b r c.in-Some.own.now c.in-Some-at.family.now c.four_bytes-key.result c.four_bytes-value.result
    c.in-Some.ensures c.in-Some-at.ensures c.if-own-family.false c.four_bytes-key.ensures c.four_bytes-value.ensures
