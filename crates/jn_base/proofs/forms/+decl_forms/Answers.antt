use Rattle.jn_base.specs.Forms.{of_member}
use Rattle.jn_base.proofs.FormsFound.{found, passed, none_left}
use Rattle.jn_base.proofs.forms.+decl_forms.Goals as goal

pub in_members-returns-then-in_member : goal.in_members-returns-then-in_member
in_members-returns-then-in_member t c = found c.args.asked of_member c.args.members.now c.loop-m.m-index c.m-item.result c.in_member.result c.loop-m.invariant c.loop-m-test.true c.m-item.is c.in_member.ensures c.if-in_member.true

pub in_members-loop-m-preserved : goal.in_members-loop-m-preserved
in_members-loop-m-preserved t c = passed c.args.asked of_member c.args.members.now c.loop-m.m-index c.m-item.result c.in_member.result c.loop-m.invariant c.loop-m-test.true c.m-item.is c.in_member.ensures c.if-in_member.false

pub in_members-returns : goal.in_members-returns
in_members-returns t c = none_left c.args.asked of_member c.args.members.now c.loop-m.m-index c.loop-m.invariant c.loop-m-test.false
