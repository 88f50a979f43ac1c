use Rattle.std.proofs.Common.{rules}
use Rattle.jn_share.specs.Listing.{listing_of}
use Rattle.jn_header.specs.Listed.{of_list}
use Rattle.jn_heads.proofs.Turns.{turns_start, turns_more_at, turns_fail_at, turns_done}
use Rattle.jn_header.proofs.listed.judge_names.Goals as goal

pub loop-name-init : goal.loop-name-init
loop-name-init c = λ p f h. turns_start p (of_list c.args.class.now (listing_of c.args.list)) c.args.names.now

pub loop-name-preserved : goal.loop-name-preserved
loop-name-preserved c = λ p f h.
    turns_more_at p (of_list c.args.class.now (listing_of c.args.list)) c.args.names.now c.loop-name.name-index (c.loop-name.invariant p f h) _ c.loop-name-test.true (c.in-Ok.ensures p f h)

pub returns-in-Err : goal.returns-in-Err
returns-in-Err c = λ p f h.
    turns_fail_at p (of_list c.args.class.now (listing_of c.args.list)) c.args.names.now c.loop-name.name-index (c.loop-name.invariant p f h) _ c.in-Err.fault c.loop-name-test.true (c.in-Err.ensures p f h)

pub returns : goal.returns
returns c = λ p f h.
    turns_done p (of_list c.args.class.now (listing_of c.args.list)) c.args.names.now c.loop-name.name-index (c.loop-name.invariant p f h) (search rules)
