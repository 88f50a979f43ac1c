use Rattle.jn_table.proofs.Maps.{mapped_at, mapped_all}
use Rattle.jn_layout.specs.Parts.{member_pair}
use Rattle.jn_layout.proofs.parts.member_pairs.Goals as goal

pub loop-m-preserved : goal.loop-m-preserved
loop-m-preserved c =
    mapped_at member_pair c.args.members.now c.loop-m.m-index (record { name = record { 0 = 0 }; id = record { 0 = 0 } }) _ _ c.loop-m-test.true c.loop-m.invariant
    c.in_ok-push.ensures.items

pub returns : goal.returns
returns c = mapped_all member_pair c.args.members.now c.loop-m.m-index _ c.loop-m-test.false c.loop-m.invariant
