use Rattle.jn_share.proofs.PairsFound.{class_none, class_other}
use Rattle.jn_share.proofs.pairs.class_number.Goals as goal

pub returns-in-None-clause-is : goal.returns-in-None-clause-is
returns-in-None-clause-is c = λ p f. class_none p c.args.t.now f c.args.path.now c.in-None.ensures.none

pub returns-then-is_class-clause-is : goal.returns-then-is_class-clause-is
returns-then-is_class-clause-is c = λ p f. (c.is_class.ensures p c.args.path.now f c.in-Some.ensures.some).0 c.if-is_class.true

pub returns-else-is_class-clause-is : goal.returns-else-is_class-clause-is
returns-else-is_class-clause-is c = λ p f.
    class_other p c.args.path.now c.is_class.result c.if-is_class.false (c.is_class.ensures p c.args.path.now f c.in-Some.ensures.some)
