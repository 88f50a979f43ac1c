use Rattle.std.proofs.Common.{arith}
use Rattle.jn_intern.proofs.Pools.{keeps_more}
use Rattle.jn_check.proofs.Masking.{joins_start, joins_next, joins_all}
use Rattle.jn_check.proofs.masks.joined.Goals as goal

pub loop-i-init : goal.loop-i-init
loop-i-init c = joins_start c.args.pool.now c.args.one.now c.args.other.now c.new-all.result.items c.new-all.ensures.items

pub loop-i-preserved : goal.loop-i-preserved
loop-i-preserved c =
    joins_next c.args.pool.now c.loop-i.pool c.joined_type.new.pool c.args.one.now c.args.other.now c.loop-i.all.items c.push.new.self.items c.loop-i.i _ c.in_ok-ty.ty c.loop-i-test.true
    (omega (arith, c.loop-i-test.true, c.requires.long)) c.requires.one c.requires.other c.loop-i.invariant c.in_ok-ty.ensures.keeps c.in_ok-ty.ensures.is c.in_ok-ty.ensures.known
    c.in_ok-push.ensures.items

pub returns-clause-is : goal.returns-clause-is
returns-clause-is c = λ p.
    joins_all c.args.pool.now c.loop-i.pool c.args.one.now c.args.other.now c.loop-i.all.items c.loop-i.i p c.loop-i-test.false (omega (arith, c.loop-i-test.false, c.requires.long))
    c.loop-i.invariant

pub returns-in_err-ty-clause-keeps : goal.returns-in_err-ty-clause-keeps
returns-in_err-ty-clause-keeps c = keeps_more c.loop-i.invariant.keeps c.joined_type.ensures.keeps

pub returns-in_err-push-clause-keeps : goal.returns-in_err-push-clause-keeps
returns-in_err-push-clause-keeps c = keeps_more c.loop-i.invariant.keeps c.joined_type.ensures.keeps
