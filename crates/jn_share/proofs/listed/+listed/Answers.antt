use Rattle.std.proofs.Common.{◌≡◌, sym, subst, ap, ◌∙◌, []}
use Rattle.std.proofs.lemmas.Result.{on_ok_weaker}
use Rattle.jn_base.specs.declared.tree.Member.{Member}
use Rattle.jn_sem.specs.NotFamily.{listed_in_member, listed_in_decl}
use Rattle.jn_share.specs.Listing.{AddsListed}
use Rattle.jn_share.proofs.Walk.{adds_none, adds_more, adds_all, adds_decl, at_inner, at_slot, at_body}
use Rattle.jn_share.proofs.listed.+listed.Goals as goal

pub add_members-loop-m-init : goal.add_members-loop-m-init
add_members-loop-m-init t c = adds_none c.args.out.now.items

pub add_members-loop-m-preserved : goal.add_members-loop-m-preserved
add_members-loop-m-preserved t c =
    adds_more listed_in_member c.args.class.now c.args.members.now c.loop-m.m-index c.m-item.result c.args.out.now.items c.loop-m.out.items c.add_member.new.out.items
    c.loop-m-test.true c.m-item.is c.loop-m.invariant c.in_ok-add_member.ensures

pub add_members-returns : goal.add_members-returns
add_members-returns t c =
    adds_all listed_in_member c.args.class.now c.args.members.now c.loop-m.m-index c.args.out.now.items c.loop-m.out.items c.loop-m-test.false c.loop-m.invariant

pub add_member-returns-in-Slot : goal.add_member-returns-in-Slot
add_member-returns-in-Slot t c =
    let none : listed_in_member c.args.m.now c.args.class.now ≡ [] =
    ap (λ (m : Member). listed_in_member m c.args.class.now) c.in-Slot.is ∙ at_slot c.in-Slot.field-0 c.args.class.now in
    subst (AddsListed c.args.out.now.items c.args.out.now.items) (sym none) (adds_none c.args.out.now.items)

pub add_member-returns-in-Body : goal.add_member-returns-in-Body
add_member-returns-in-Body t c =
    let none : listed_in_member c.args.m.now c.args.class.now ≡ [] =
    ap (λ (m : Member). listed_in_member m c.args.class.now) c.in-Body.is ∙ at_body c.in-Body.field-0 c.args.class.now in
    subst (AddsListed c.args.out.now.items c.args.out.now.items) (sym none) (adds_none c.args.out.now.items)

pub add_member-returns-in-Inner : goal.add_member-returns-in-Inner
add_member-returns-in-Inner t c =
    let is : listed_in_member c.args.m.now c.args.class.now ≡ listed_in_decl c.in-Inner.d c.args.class.now =
    ap (λ (m : Member). listed_in_member m c.args.class.now) c.in-Inner.is ∙ at_inner c.in-Inner.d c.args.class.now in
    on_ok_weaker c.add_decl.result (λ h. subst (AddsListed c.args.out.now.items c.add_decl.new.out.items) (sym is) h) c.add_decl.ensures

pub add_decl-returns : goal.add_decl-returns
add_decl-returns t c =
    on_ok_weaker c.add_members.result
    (λ h. adds_decl c.args.d.now c.args.namespace.now c.in_ok-class.class c.as_slice.result.now c.args.out.now.items c.add_own.new.out.items c.add_members.new.out.items
    c.in_ok-class.ensures c.as_slice.ensures c.in_ok-add_own.ensures h)
    c.add_members.ensures
