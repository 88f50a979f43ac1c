use Rattle.std.proofs.Common.{rules}
use Rattle.jn_rules.specs.Members.{FailsFor}
use Rattle.jn_header.proofs.BadMembers.{first_here, none_more, none_at_all}
use Rattle.jn_header.proofs.Finding.{so, not_so}
use Rattle.jn_header.proofs.constraints.first_failing.Goals as goal

pub returns-then-branch : goal.returns-then-branch
returns-then-branch c = λ p bo sh n num class.
    first_here (FailsFor p c.args.class.now) c.args.methods.now c.loop-name.name-index (c.loop-name.invariant p bo sh n num class) _ c.loop-name-test.true
    (so (search rules) (c.in_ok-fails_for.ensures p bo sh n num class))

pub loop-name-preserved : goal.loop-name-preserved
loop-name-preserved c = λ p bo sh n num class.
    none_more (FailsFor p c.args.class.now) c.args.methods.now c.loop-name.name-index (c.loop-name.invariant p bo sh n num class) _ c.loop-name-test.true
    (not_so (search rules) (c.in_ok-fails_for.ensures p bo sh n num class))

pub returns : goal.returns
returns c = λ p bo sh n num class.
    none_at_all (FailsFor p c.args.class.now) c.args.methods.now c.loop-name.name-index c.loop-name-test.false (c.loop-name.invariant p bo sh n num class)
