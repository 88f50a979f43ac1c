use Rattle.std.proofs.Common.{Some, arith}
use Rattle.jn_meaning.specs.declared.did.Ending.TheVariants as ending
use Rattle.jn_meaning.proofs.Ends.{settled_first, settled_works, settled_over, settled_more, no_turn_left}
use Rattle.jn_meaning.proofs.settling.settle.Goals as goal

pub loop-turn-init : goal.loop-turn-init
loop-turn-init c =
    settled_first c.args.now.now c.args.waiting.now.items

pub returns-in-Works : goal.returns-in-Works
returns-in-Works c =
    settled_works c.args.now.now c.args.waiting.now.items c.loop-turn.now c.loop-turn.waiting.items c.loop-turn.turn c.loop-turn.invariant c.settle_top.new.now c.settle_top.new.waiting.items c.in_ok-settle_top.field-0 c.in_ok-settle_top.ensures.told c.in-Works.is

pub returns-in-Over : goal.returns-in-Over
returns-in-Over c =
    settled_over c.args.now.now c.args.waiting.now.items c.loop-turn.now c.loop-turn.waiting.items c.loop-turn.turn c.loop-turn.invariant c.settle_top.new.now c.settle_top.new.waiting.items c.in_ok-settle_top.field-0 c.in_ok-settle_top.ensures.told c.in-Over.o c.in-Over.is

pub loop-turn-preserved : goal.loop-turn-preserved
loop-turn-preserved c =
    settled_more c.args.now.now c.args.waiting.now.items c.loop-turn.now c.loop-turn.waiting.items c.loop-turn.turn c.loop-turn.invariant c.settle_top.new.now c.settle_top.new.waiting.items c.in_ok-settle_top.field-0 c.in_ok-settle_top.ensures.told c.in-Again.is c.in_ok-settle_top.ensures.less

pub returns : goal.returns
returns c =
    no_turn_left c.args.now.now c.args.waiting.now.items c.loop-turn.now c.loop-turn.waiting.items c.loop-turn.turn c.loop-turn.invariant (omega arith) (Some ending.Ends)
