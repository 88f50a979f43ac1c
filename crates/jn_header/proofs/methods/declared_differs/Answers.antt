use Rattle.std.proofs.Common.{rules}
use Rattle.jn_header.proofs.Finding.{so, not_so}
use Rattle.jn_header.proofs.MethodNames.{other_in, no_other_more, no_other_declared}
use Rattle.jn_header.proofs.methods.declared_differs.Goals as goal

pub returns-then-is_other_super : goal.returns-then-is_other_super
returns-then-is_other_super c = λ b p t R bo n is.
    let w = so c.if-is_other_super.true (c.is_other_super.ensures b p t R bo n is) in
    other_in p b c.args.name R w.0 w.2 w.3

pub loop-other-preserved : goal.loop-other-preserved
loop-other-preserved c = λ b p t R bo n is.
    no_other_more p t.known.items b c.args.name R c.args.declaring.now c.loop-other.other-index (record { 0 = 0 })
    c.loop-other-test.true (c.loop-other.invariant b p t R bo n is)
    (not_so c.if-is_other_super.false (c.is_other_super.ensures b p t R bo n is))

pub returns : goal.returns
returns c = λ b p t R bo n is.
    no_other_declared p t c.args.bodies.now.members bo.members b c.args.name R c.args.declaring.now c.requires c.args.id n
    c.loop-other.other-index (search rules) (c.loop-other.invariant b p t R bo n is)
