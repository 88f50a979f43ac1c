use Rattle.std.proofs.Common.{◌≡◌, sym, subst, ap, ◌∙◌, [], ◌∷◌, List, map}
use Rattle.jn_base.specs.declared.tree.Decl.{Decl}
use Rattle.jn_base.specs.declared.tree.Member.{Member}
use Rattle.jn_base.specs.Paths.{Path}
use Rattle.jn_names.specs.FieldTypes.{AtField, all_by, fields_of_member, fields_of_decl}
use Rattle.jn_names.specs.FieldSteps.{Adds, AddsOr}
use Rattle.jn_names.proofs.FieldProof.{adds_none, adds_more, refused_at, adds_all, at_decl, at_body}
use Rattle.jn_names.proofs.fields.+field_types.Goals as goal

pub add_members-loop-m-preserved : goal.add_members-loop-m-preserved
add_members-loop-m-preserved t c = λ p f e.
    adds_more fields_of_member c.args.class.now c.args.members.now p c.args.t.now c.loop-m.m-index c.m-item.result
    c.args.out.now.items c.loop-m.out.items c.add_member.new.out.items
    c.loop-m-test.true c.m-item.is (c.loop-m.invariant p f e) (c.in-Ok.ensures p f e)

pub add_members-returns-in-Err : goal.add_members-returns-in-Err
add_members-returns-in-Err t c = λ p f e.
    refused_at fields_of_member c.args.class.now c.args.members.now p c.args.t.now c.loop-m.m-index c.m-item.result
    c.args.out.now.items c.loop-m.out.items c.add_member.new.out.items c.in-Err.fault
    c.loop-m-test.true c.m-item.is (c.loop-m.invariant p f e) (c.in-Err.ensures p f e)

pub add_members-returns : goal.add_members-returns
add_members-returns t c = λ p f e.
    adds_all fields_of_member c.args.class.now c.args.members.now p c.args.t.now c.loop-m.m-index c.args.out.now.items
    c.loop-m.out.items c.loop-m-test.false (c.loop-m.invariant p f e)

pub add_members-loop-m-init : goal.add_members-loop-m-init
add_members-loop-m-init t c = λ p f e. adds_none p c.args.t.now c.args.out.now.items

pub add_member-returns-in-Body : goal.add_member-returns-in-Body
add_member-returns-in-Body t c = λ p f e.
    let none : fields_of_member c.args.m.now c.args.class.now ≡ [] =
    ap (λ (m : Member). fields_of_member m c.args.class.now) c.in-Body.is ∙ at_body c.in-Body.field-0 c.args.class.now in
    subst (λ (xs : List AtField). Adds p c.args.t.now xs c.args.out.now.items c.args.out.now.items) (sym none)
    (adds_none p c.args.t.now c.args.out.now.items)

pub add_decl-returns : goal.add_decl-returns
add_decl-returns t c = λ p f e.
    let d : Decl = c.args.d.now in
    let N : Path = c.args.namespace.now in
    let class : c.push.new.self ≡ d.name.name ∷ N = c.in_ok-push.ensures
    ∙ ap (λ (R : Path). d.name.name ∷ R) c.in_ok-class.ensures in
    let fields : all_by c.push.new.self (map fields_of_member c.as_slice.result.now) ≡ fields_of_decl d N =
    ap (λ (R : Path). all_by R (map fields_of_member c.as_slice.result.now)) class
    ∙ (ap (λ (ms : List Member). all_by (d.name.name ∷ N) (map fields_of_member ms)) c.as_slice.ensures ∙ sym (at_decl d N)) in
    subst (λ (xs : List AtField). AddsOr p c.args.t.now xs c.args.out.now.items c.add_members.new.out.items
    c.add_members.result) fields (c.add_members.ensures p f e)
