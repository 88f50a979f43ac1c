use Rattle.std.proofs.Common.{refl}
use Rattle.std.proofs.lemmas.Result.{on_ok_weaker}
use Rattle.jn_layout.specs.Shapes.{bodies_in}
use Rattle.jn_link.proofs.Walking.{all_none, all_next, all_all, in_inner, in_slot, in_body, in_decl}
use Rattle.jn_link.proofs.codes.+lowering.Goals as goal

pub lower_members-loop-m-init : goal.lower_members-loop-m-init
lower_members-loop-m-init t c = λ R. all_none c.args.g.now c.args.out.now

pub lower_members-loop-m-preserved : goal.lower_members-loop-m-preserved
lower_members-loop-m-preserved t c =
    all_next c.args.g.now bodies_in c.args.members.now c.loop-m.m-index c.m-item.result c.args.out.now c.loop-m.out
    c.lower_member.new.out c.loop-m-test.true c.m-item.is c.loop-m.invariant c.in_ok-lower_member.ensures

pub lower_members-returns : goal.lower_members-returns
lower_members-returns t c =
    all_all c.args.g.now bodies_in c.args.members.now c.loop-m.m-index c.args.out.now c.loop-m.out
    c.loop-m-test.false c.loop-m.invariant

pub lower_member-returns-in-Inner : goal.lower_member-returns-in-Inner
lower_member-returns-in-Inner t c =
    on_ok_weaker c.lower_decl.result
    (λ h. in_inner c.args.g.now c.args.m.now c.args.out.now c.lower_decl.new.out c.in-Inner.d c.in-Inner.is h)
    c.lower_decl.ensures

pub lower_member-returns-in-Slot : goal.lower_member-returns-in-Slot
lower_member-returns-in-Slot t c =
    λ R. in_slot c.args.g.now c.args.m.now c.args.out.now c.args.out.now c.in-Slot.field-0 c.in-Slot.is refl R

pub lower_member-returns-in-Body : goal.lower_member-returns-in-Body
lower_member-returns-in-Body t c =
    on_ok_weaker c.lower_next.result
    (λ h. in_body c.args.g.now c.args.m.now c.args.out.now c.lower_next.new.out c.in-Body.b c.in-Body.is h)
    c.lower_next.ensures

pub lower_decl-returns : goal.lower_decl-returns
lower_decl-returns t c =
    on_ok_weaker c.lower_members.result
    (λ h. in_decl c.args.g.now c.args.d.now c.as_slice.result.now c.args.out.now c.lower_members.new.out
    c.as_slice.ensures h)
    c.lower_members.ensures
