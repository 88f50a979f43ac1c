use Rattle.jn_meaning.proofs.OneCharge.{goes_silent, goes_printing, goes_in, goes_out, goes_over}
use Rattle.jn_meaning.proofs.charging.proceed.Goals as goal

pub returns-in_ok-ending-in-Went : goal.returns-in_ok-ending-in-Went
returns-in_ok-ending-in-Went c =
    goes_silent c.args.w.now.program.now c.args.t.now.known.items c.args.depth c.args.did c.args.now.now c.args.waiting.now.items c.args.h.now c.settle.new.now c.settle.new.waiting.items c.in_ok-ending-in-Went.ending c.in-Went.is c.in_ok-ending-in-Went.ensures

pub returns-in_ok-ending-in-Printed : goal.returns-in_ok-ending-in-Printed
returns-in_ok-ending-in-Printed c =
    goes_printing c.args.w.now.program.now c.args.t.now.known.items c.args.depth c.args.did c.args.now.now c.args.waiting.now.items c.args.h.now c.settle-in-Printed.new.now c.settle-in-Printed.new.waiting.items c.in-Printed.line c.in_ok-ending-in-Printed.ending c.in-Printed.is c.in_ok-ending-in-Printed.ensures

pub returns-in_ok-ending-in-Entered : goal.returns-in_ok-ending-in-Entered
returns-in_ok-ending-in-Entered c =
    goes_in c.args.w.now.program.now c.args.t.now.known.items c.args.depth c.args.did c.args.now.now c.args.waiting.now.items c.args.h.now c.enter.new.now c.enter.new.waiting.items c.in-Entered.called c.in_ok-ending-in-Entered.ending c.in-Entered.is c.in_ok-ending-in-Entered.ensures

pub returns-in_ok-ending-in-Left : goal.returns-in_ok-ending-in-Left
returns-in_ok-ending-in-Left c =
    goes_out c.args.w.now.program.now c.args.t.now.known.items c.args.depth c.args.did c.args.now.now c.args.waiting.now.items c.args.h.now c.leave.new.now c.leave.new.waiting.items c.in-Left.v c.in_ok-ending-in-Left.ending c.in-Left.is c.in_ok-ending-in-Left.ensures

pub returns-in-Ended : goal.returns-in-Ended
returns-in-Ended c =
    goes_over c.args.w.now.program.now c.args.t.now.known.items c.args.depth c.args.did c.args.now.now c.args.waiting.now.items c.args.h.now c.args.now.now c.args.waiting.now.items c.in-Ended.o c.in-Ended.is
