use Rattle.std.proofs.Common.{get_or}
use Rattle.jn_share.specs.Listing.{listed_of}
use Rattle.jn_share.proofs.FieldEntries.{any_default}
use Rattle.jn_share.proofs.PairsFound.{adds_start, adds_next, adds_end}
use Rattle.jn_share.proofs.pairs.add_among.Goals as goal

pub loop-k-init : goal.loop-k-init
loop-k-init c = record { below = λ b. b; adds = λ p f. adds_start p c.args.t.now.known.items (listed_of c.args.x.now) c.args.numbers.now c.args.pairs.now.items }

pub loop-k-preserved : goal.loop-k-preserved
loop-k-preserved c =
    let numbers = c.args.numbers.now in
    let k = get_or numbers c.loop-k.k-index 0 in
    record {
      below = λ b. c.in_ok-add_pair.ensures.below (c.loop-k.invariant.below b);
      adds = λ p f. adds_next p c.args.t.now.known.items (listed_of c.args.x.now) numbers c.loop-k.k-index k c.args.pairs.now.items c.loop-k.pairs.items
          c.add_pair.new.pairs.items c.loop-k-test.true (any_default numbers c.loop-k.k-index 0 k c.loop-k-test.true) (c.loop-k.invariant.adds p f) (c.in_ok-add_pair.ensures.adds p f);
    }

pub returns-clause-below : goal.returns-clause-below
returns-clause-below c = c.loop-k.invariant.below

pub returns-clause-adds : goal.returns-clause-adds
returns-clause-adds c = λ p f.
    adds_end p c.args.t.now.known.items (listed_of c.args.x.now) c.args.numbers.now c.loop-k.k-index c.args.pairs.now.items c.loop-k.pairs.items c.loop-k-test.false
    (c.loop-k.invariant.adds p f)
