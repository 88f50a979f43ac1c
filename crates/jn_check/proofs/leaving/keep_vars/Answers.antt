use Rattle.std.proofs.Common.{sym, ◌∙◌, arith}
use Rattle.std.proofs.lemmas.List.{take_all}
use Rattle.jn_check.proofs.leaving.keep_vars.Goals as goal

pub returns : goal.returns
returns c = sym (take_all c.args.count c.loop-vars.vars.list (omega (arith, c.loop-vars-test.false))) ∙ c.loop-vars.invariant
