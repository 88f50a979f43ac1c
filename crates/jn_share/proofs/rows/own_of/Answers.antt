use Rattle.std.proofs.Common.{refl}
use Rattle.jn_share.proofs.OwnRows.{no_class, no_family_there, no_number_there, own_is}
use Rattle.jn_share.proofs.rows.own_of.Goals as goal

pub returns-then-not-is_class : goal.returns-then-not-is_class
returns-then-not-is_class c = λ p R f all a.
    no_class p c.args.t.now.known.items c.args.families.now all c.args.k R a c.is_class.result c.if-not-is_class.true (c.is_class.ensures p R f a)

pub returns-in-None : goal.returns-in-None
returns-in-None c = λ p R f all a.
    no_family_there p c.args.t.now.known.items c.args.families.now all c.args.k R a c.in-None.ensures

pub returns-in-None-filled : goal.returns-in-None-filled
returns-in-None-filled c = λ p R f all a.
    no_number_there p c.args.t.now.known.items c.args.families.now all c.args.k R a c.in-Some.number.now c.in-Some.ensures c.in-None-filled.ensures.none

pub returns-in-Some-filled : goal.returns-in-Some-filled
returns-in-Some-filled c = λ p R f all a.
    own_is p c.args.t.now.known.items c.args.families.now all c.args.k R a c.in-Some.number.now c.in-Some-filled.family (record { 0 = c.args.k }) c.is_class.result
    c.in-Some.ensures c.in-Some-filled.ensures.some.0 refl c.if-not-is_class.false (c.is_class.ensures p R f a)
