use Rattle.std.proofs.Common.{rules, IsTrue}
use Rattle.jn_code.specs.Form.{InstrInForm}
use Rattle.jn_lower.proofs.Forming.{each_on, each_over}
use Rattle.jn_lower.proofs.formed.are_in_form.Goals as goal

pub loop-instr-preserved : goal.loop-instr-preserved
loop-instr-preserved c =
    let told : IsTrue c.is_in_form.result = search rules in
    each_on InstrInForm c.args.instrs.now c.loop-instr.instr-index _ c.loop-instr.invariant c.loop-instr-test.true
    (c.is_in_form.ensures told)

pub returns : goal.returns
returns c told =
    each_over InstrInForm c.args.instrs.now c.loop-instr.instr-index c.loop-instr.invariant c.loop-instr-test.false
