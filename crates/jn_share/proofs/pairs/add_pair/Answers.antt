use Rattle.std.proofs.Common.{length}
use Rattle.jn_share.specs.Listing.{listed_of}
use Rattle.jn_share.proofs.PairsFound.{adds_no_pair, adds_pair, partner_none, partner_some, below_more, some_within}
use Rattle.jn_share.proofs.pairs.add_pair.Goals as goal

pub returns-in-None-clause-adds : goal.returns-in-None-clause-adds
returns-in-None-clause-adds c = λ p f.
    adds_no_pair p c.args.t.now.known.items (listed_of c.args.x.now) c.args.k c.args.pairs.now.items
    (partner_none p c.args.t.now.known.items (listed_of c.args.x.now) c.args.k c.in_ok-partner.field-0 c.in-None.is (c.in_ok-partner.ensures.is p f))

pub returns-in_ok-push-in-Some-clause-adds : goal.returns-in_ok-push-in-Some-clause-adds
returns-in_ok-push-in-Some-clause-adds c = λ p f.
    adds_pair p c.args.t.now f (listed_of c.args.x.now) c.args.k c.in-Some.j c.args.pairs.now.items c.push.new.self.items
    (partner_some p c.args.t.now.known.items (listed_of c.args.x.now) c.args.k c.in-Some.j c.in_ok-partner.field-0 c.in-Some.is (c.in_ok-partner.ensures.is p f))
    c.in_ok-push-in-Some.ensures.items

pub returns-in_ok-push-in-Some-clause-below : goal.returns-in_ok-push-in-Some-clause-below
returns-in_ok-push-in-Some-clause-below c =
    below_more (length c.args.t.now.known.items) c.args.k c.in-Some.j c.args.pairs.now.items c.push.new.self.items
    (some_within (length c.args.t.now.known.items) c.args.k c.in-Some.j c.in_ok-partner.field-0 c.in-Some.is c.in_ok-partner.ensures.below)
    c.in_ok-push-in-Some.ensures.items
