use Rattle.std.proofs.Common.{◌≤◌, ◌<◌, length, ap, arith}
use Rattle.jn_share.specs.Listing.{listed_of}
use Rattle.jn_share.proofs.PairsFound.{past_end, no_meets, no_class_here, partner_told, both_within}
use Rattle.jn_share.proofs.pairs.partner.Goals as goal

pub returns-then-k-known-clause-is : goal.returns-then-k-known-clause-is
returns-then-k-known-clause-is c = λ p f.
    let past : length c.args.t.now.known.items ≤ c.args.k = omega (arith, c.if-k-known.true, ap length c.known.ensures) in
    past_end p c.args.t.now.known.items (listed_of c.args.x.now) c.args.k past

pub returns-then-not-meets-clause-is : goal.returns-then-not-meets-clause-is
returns-then-not-meets-clause-is c = λ p f.
    no_meets p c.args.t.now.known.items (listed_of c.args.x.now) c.args.k c.names_at-names.result.now c.names_at-names.ensures c.meets.result c.if-not-meets.true c.meets.ensures

pub returns-then-not-is_class-clause-is : goal.returns-then-not-is_class-clause-is
returns-then-not-is_class-clause-is c = λ p f.
    no_class_here p c.args.t.now.known.items (listed_of c.args.x.now) c.args.k c.names_at-names.result.now c.names_at-names.ensures c.is_class.result c.if-not-is_class.true
    (λ R n. c.is_class.ensures p R f n)

pub returns-clause-below : goal.returns-clause-below
returns-clause-below c =
    let within : c.args.k < length c.args.t.now.known.items = omega (arith, c.if-k-known.false, ap length c.known.ensures) in
    both_within c.args.t.now.known.items c.in_ok-there.there c.args.k c.class_number.result within c.class_number.ensures.some

pub returns-clause-is : goal.returns-clause-is
returns-clause-is c = λ p f.
    partner_told p c.args.t.now.known.items (listed_of c.args.x.now) c.args.k c.names_at-names.result.now c.names_at-names.ensures c.in_ok-there.there
    c.meets.result c.is_class.result c.class_number.result c.if-not-meets.false c.meets.ensures c.if-not-is_class.false
    (λ R n. c.is_class.ensures p R f n) c.in_ok-there.ensures c.class_number.ensures.some (c.class_number.ensures.is p f)
