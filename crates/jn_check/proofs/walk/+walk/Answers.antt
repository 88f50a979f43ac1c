use Rattle.jn_check.specs.Walk.{plan_of_member, bodies_of_member}
use Rattle.jn_check.proofs.Walking.{walk_more, walk_fail, walk_done, slot_known, decl_told}
use Rattle.jn_check.proofs.walk.+walk.Goals as goal

pub check_members-loop-m-preserved : goal.check_members-loop-m-preserved
check_members-loop-m-preserved t c = (
  walk_more c.args.p.now (plan_of_member c.args.class.now) (bodies_of_member c.args.class.now) c.args.members.now c.loop-m.m-index c.m-item.result c.args.out.now.items c.loop-m.out.items
      c.check_member.new.out.items c.loop-m-test.true c.m-item.is c.loop-m.invariant.0 c.in-Ok.ensures.told,
  c.in-Ok.ensures.parts,
)

pub check_members-returns-in-Err-clause-told : goal.check_members-returns-in-Err-clause-told
check_members-returns-in-Err-clause-told t c =
    walk_fail c.args.p.now (plan_of_member c.args.class.now) (bodies_of_member c.args.class.now) c.args.members.now c.loop-m.m-index c.m-item.result c.in-Err.fault c.args.out.now.items
    c.loop-m.out.items c.check_member.new.out.items c.loop-m-test.true c.m-item.is c.loop-m.invariant.0 c.in-Err.ensures.told

pub check_members-returns-clause-told : goal.check_members-returns-clause-told
check_members-returns-clause-told t c =
    walk_done c.args.p.now (plan_of_member c.args.class.now) (bodies_of_member c.args.class.now) c.args.members.now c.loop-m.m-index c.args.out.now.items c.loop-m.out.items c.loop-m-test.false
    c.loop-m.invariant.0

pub check_member-returns-in-Slot-clause-told : goal.check_member-returns-in-Slot-clause-told
check_member-returns-in-Slot-clause-told t c = slot_known c.args.p.now c.args.class.now c.args.m.now c.args.out.now.items c.in-Slot.field-0 c.in-Slot.is

pub check_decl-returns-clause-told : goal.check_decl-returns-clause-told
check_decl-returns-clause-told t c =
    decl_told c.args.p.now c.args.d.now c.args.namespace.now c.push.new.self c.in_ok-class.class c.as_slice.result.now c.args.out.now.items c.check_members.new.out.items c.check_members.result
    c.in_ok-push.ensures c.in_ok-class.ensures c.as_slice.ensures c.check_members.ensures.told
