use Rattle.jn_base.specs.Forms.{of_decl}
use Rattle.jn_base.proofs.FormsFound.{found, passed, none_left}
use Rattle.jn_base.proofs.forms.in_decls.Goals as goal

pub returns-then-in_decl : goal.returns-then-in_decl
returns-then-in_decl c = found c.args.asked of_decl c.args.decls.now c.loop-d.d-index c.d-item.result c.in_decl.result c.loop-d.invariant c.loop-d-test.true c.d-item.is c.in_decl.ensures c.if-in_decl.true

pub loop-d-preserved : goal.loop-d-preserved
loop-d-preserved c = passed c.args.asked of_decl c.args.decls.now c.loop-d.d-index c.d-item.result c.in_decl.result c.loop-d.invariant c.loop-d-test.true c.d-item.is c.in_decl.ensures c.if-in_decl.false

pub returns : goal.returns
returns c = none_left c.args.asked of_decl c.args.decls.now c.loop-d.d-index c.loop-d.invariant c.loop-d-test.false
