use Rattle.jn_rules.specs.Members.{BadMethod}
use Rattle.jn_header.proofs.BadMembers.{first_here, none_more, none_at_all}
use Rattle.jn_header.proofs.Finding.{so, not_so}
use Rattle.jn_header.proofs.methods.first_bad.Goals as goal

pub returns-then-is_bad : goal.returns-then-is_bad
returns-then-is_bad c = λ p R bo n.
    first_here (BadMethod p R) c.args.names.now c.loop-name.name-index (c.loop-name.invariant p R bo n) _ c.loop-name-test.true (so c.if-is_bad.true (c.is_bad.ensures p R bo n))

pub loop-name-preserved : goal.loop-name-preserved
loop-name-preserved c = λ p R bo n.
    none_more (BadMethod p R) c.args.names.now c.loop-name.name-index (c.loop-name.invariant p R bo n) _ c.loop-name-test.true (not_so c.if-is_bad.false (c.is_bad.ensures p R bo n))

pub returns : goal.returns
returns c = λ p R bo n. none_at_all (BadMethod p R) c.args.names.now c.loop-name.name-index c.loop-name-test.false (c.loop-name.invariant p R bo n)
