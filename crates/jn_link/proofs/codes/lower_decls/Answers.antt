use Rattle.jn_agree.specs.Rows.{of_decl}
use Rattle.jn_link.proofs.Walking.{all_none, all_next, all_all}
use Rattle.jn_link.proofs.codes.lower_decls.Goals as goal

pub loop-d-init : goal.loop-d-init
loop-d-init c = λ R. all_none c.args.g.now c.args.out.now

pub loop-d-preserved : goal.loop-d-preserved
loop-d-preserved c =
    all_next c.args.g.now of_decl c.args.decls.now c.loop-d.d-index c.d-item.result c.args.out.now c.loop-d.out
    c.lower_decl.new.out c.loop-d-test.true c.d-item.is c.loop-d.invariant c.in_ok-lower_decl.ensures

pub returns : goal.returns
returns c =
    all_all c.args.g.now of_decl c.args.decls.now c.loop-d.d-index c.args.out.now c.loop-d.out
    c.loop-d-test.false c.loop-d.invariant
