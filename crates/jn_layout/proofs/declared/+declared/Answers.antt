use Rattle.std.proofs.lemmas.Result.{on_ok_weaker}
use Rattle.jn_names.specs.FieldTypes.{fields_of_member}
use Rattle.jn_layout.specs.Shapes.{bodies_in}
use Rattle.jn_layout.proofs.Adding.{both_none, both_more, both_all, both_inner, both_slot, both_body, both_decl}
use Rattle.jn_layout.proofs.declared.+declared.Goals as goal

pub add_members-loop-m-init : goal.add_members-loop-m-init
add_members-loop-m-init t c = both_none c.args.t.now c.args.out.now

pub add_members-loop-m-preserved : goal.add_members-loop-m-preserved
add_members-loop-m-preserved t c =
    both_more c.args.t.now bodies_in fields_of_member c.args.class.now c.args.members.now c.loop-m.m-index c.m-item.result c.args.out.now c.loop-m.out c.add_member.new.out
    c.loop-m-test.true c.m-item.is c.loop-m.invariant c.in_ok-add_member.ensures

pub add_members-returns : goal.add_members-returns
add_members-returns t c =
    both_all c.args.t.now bodies_in fields_of_member c.args.class.now c.args.members.now c.loop-m.m-index c.args.out.now c.loop-m.out c.loop-m-test.false c.loop-m.invariant

pub add_member-returns-in-Inner : goal.add_member-returns-in-Inner
add_member-returns-in-Inner t c =
    on_ok_weaker c.add_decl.result (λ h. both_inner c.args.t.now c.args.m.now c.in-Inner.d c.args.class.now c.args.out.now c.add_decl.new.out c.in-Inner.is h) c.add_decl.ensures

pub add_member-returns-in-Slot : goal.add_member-returns-in-Slot
add_member-returns-in-Slot t c =
    on_ok_weaker c.add_field.result (λ h. both_slot c.args.t.now c.args.m.now c.in-Slot.f c.args.class.now c.args.out.now c.add_field.new.out c.in-Slot.is h) c.add_field.ensures

pub add_member-returns-in-Body : goal.add_member-returns-in-Body
add_member-returns-in-Body t c =
    on_ok_weaker c.add_body.result (λ h. both_body c.args.t.now c.args.m.now c.in-Body.b c.args.class.now c.args.out.now c.add_body.new.out c.in-Body.is h) c.add_body.ensures

pub add_decl-returns : goal.add_decl-returns
add_decl-returns t c =
    on_ok_weaker c.add_members.result
    (λ h. both_decl c.args.t.now c.args.d.now c.args.namespace.now c.push.new.self c.in_ok-class.class c.as_slice.result.now c.args.out.now c.add_members.new.out
    c.in_ok-push.ensures c.in_ok-class.ensures c.as_slice.ensures h)
    c.add_members.ensures
