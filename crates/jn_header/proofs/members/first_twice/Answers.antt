use Rattle.jn_rules.specs.Members.{BadField}
use Rattle.jn_header.proofs.BadMembers.{first_here, none_more, none_at_all, told_bad, told_good}
use Rattle.jn_header.proofs.members.first_twice.Goals as goal

pub returns-then-is_twice : goal.returns-then-is_twice
returns-then-is_twice c = λ p t R m n.
    first_here (BadField p R) c.args.names.now c.loop-f.f-index (c.loop-f.invariant p t R m n) _ c.loop-f-test.true
    (told_bad p R _ c.is_twice.result c.if-is_twice.true (c.is_twice.ensures p t R m n))

pub loop-f-preserved : goal.loop-f-preserved
loop-f-preserved c = λ p t R m n.
    none_more (BadField p R) c.args.names.now c.loop-f.f-index (c.loop-f.invariant p t R m n) _ c.loop-f-test.true
    (told_good p R _ c.is_twice.result c.if-is_twice.false (c.is_twice.ensures p t R m n))

pub returns : goal.returns
returns c = λ p t R m n. none_at_all (BadField p R) c.args.names.now c.loop-f.f-index c.loop-f-test.false (c.loop-f.invariant p t R m n)
