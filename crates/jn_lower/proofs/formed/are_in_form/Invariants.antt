use Rattle.std.proofs.Common.{drop}
use Rattle.std.specs.List.{AllByRecursion}
use Rattle.jn_code.specs.Form.{InstrInForm}
use Rattle.jn_lower.proofs.formed.are_in_form.Given as goal

abbrev pub invariant-loop-instr : goal.invariant-loop-instr
invariant-loop-instr l =
    AllByRecursion InstrInForm (drop l.instr-index l.instrs) → AllByRecursion InstrInForm l.instrs
