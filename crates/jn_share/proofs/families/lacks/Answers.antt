use Rattle.std.proofs.lemmas.Result.{IfOk-weaker}
use Rattle.jn_share.proofs.Refusing.{no_strict, by_class}
use Rattle.jn_share.proofs.families.lacks.Goals as goal

pub returns-then-not-branch : goal.returns-then-not-branch
returns-then-not-branch c = λ p X f e.
    no_strict p c.args.at.now c.args.list c.args.name X e c.in_ok-is_strict_super.field-0
    (c.in_ok-is_strict_super.ensures p X c.args.name.name f e c.in_ok-above.ensures) c.if-not-branch.true

pub returns : goal.returns
returns c =
    IfOk-weaker c.lacks_class.result _ _
    (λ b h. λ p X f e.
    by_class p c.args.at.now c.args.list c.args.name X e c.in_ok-is_strict_super.field-0
    (c.in_ok-is_strict_super.ensures p X c.args.name.name f e c.in_ok-above.ensures) b c.if-not-branch.false (h p f))
    c.lacks_class.ensures
