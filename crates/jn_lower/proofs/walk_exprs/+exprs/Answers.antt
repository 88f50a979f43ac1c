use Rattle.std.proofs.Common.{rules, arith, ◌≡◌, ◌<◌, ◌+◌, ◌-◌, length, List, true, ℤ, to_z, of_z, w64, refl, subst, sym, ◌∙◌}
use Rattle.jn_base.specs.declared.tree.Expr.{Expr}
use Rattle.jn_base.specs.declared.tree.Node.{Node}
use Rattle.jn_base.specs.declared.tree.Node.TheVariants as node
use Rattle.jn_base.specs.declared.tree.Link.{Link}
use Rattle.jn_base.specs.declared.tree.Suffix.{Suffix}
use Rattle.jn_lower.specs.Walks.{Decided, LowersValue, LowersNode, LowersLinks, LowersParts}
use Rattle.jn_lower.proofs.Seams.{on_ok}
use Rattle.jn_lower.proofs.LeafForms.{at_place}
use Rattle.jn_lower.proofs.Chains.{inverted, negated, chained, strict_link, strict_of, decide_of, deciding_link}
use Rattle.jn_lower.proofs.Views.{view_done}
use Rattle.jn_lower.proofs.Posts.{post_done}
use Rattle.jn_lower.proofs.Behind.{call_done}
use Rattle.jn_lower.proofs.Making.{made_done}
use Rattle.jn_lower.proofs.Above.{above_split, bare_split, further_on, further_over}
use Rattle.jn_lower.proofs.Loops.{links_on, links_over, parts_begin, parts_step, parts_over, args_on, args_over}
use Rattle.jn_lower.proofs.walk_exprs.+exprs.Goals as goal

pub value-returns : goal.value-returns
value-returns t c =
    on_ok c.node.result (λ h. at_place c.args.g.now true c.args.e.now c.args.w.now c.node.new.w h) c.node.ensures

pub node-returns-in-Int : goal.node-returns-in-Int
node-returns-in-Int t c =
    let e : to_z w64 (of_z w64 c.in-Int.z) ≡ c.in-Int.z = search rules in
    on_ok c.number_value.result (λ h. subst (λ (x : Node). LowersNode c.args.g.now x c.args.w.now c.number_value.new.w) (sym c.in-Int.is)
    (subst (λ (y : ℤ). LowersNode c.args.g.now (node.Int y) c.args.w.now c.number_value.new.w) e (h c.args.g.now))) c.number_value.ensures

pub node-returns-in_ok-push-in-Not : goal.node-returns-in_ok-push-in-Not
node-returns-in_ok-push-in-Not t c =
    on_ok c.had.result (λ h. subst (λ (x : Node). LowersNode c.args.g.now x c.args.w.now c.had.new.w) (sym c.in-Not.is)
    (inverted c.args.g.now c.in-Not.e c.args.w.now c.value.new.w c.push.new.w c.had.new.w
    (subst (λ (x : Expr). LowersValue c.args.g.now x c.args.w.now c.value.new.w) c.get.ensures c.in_ok-value-in-Not.ensures)
    c.in_ok-push-in-Not.ensures h)) c.had.ensures

pub node-returns-in_ok-push-in-Neg : goal.node-returns-in_ok-push-in-Neg
node-returns-in_ok-push-in-Neg t c =
    on_ok c.had-in-Neg.result (λ h. subst (λ (x : Node). LowersNode c.args.g.now x c.args.w.now c.had-in-Neg.new.w) (sym c.in-Neg.is)
    (negated c.args.g.now c.in-Neg.e c.args.w.now c.value-in-Neg.new.w c.push-in-Neg.new.w c.had-in-Neg.new.w
    (subst (λ (x : Expr). LowersValue c.args.g.now x c.args.w.now c.value-in-Neg.new.w) c.get-in-Neg.ensures c.in_ok-value-in-Neg.ensures)
    c.in_ok-push-in-Neg.ensures h)) c.had-in-Neg.ensures

pub node-returns-in_ok-value-in-Chain : goal.node-returns-in_ok-value-in-Chain
node-returns-in_ok-value-in-Chain t c =
    on_ok c.links.result (λ h. subst (λ (x : Node). LowersNode c.args.g.now x c.args.w.now c.links.new.w) (sym c.in-Chain.is)
    (chained c.args.g.now c.in-Chain.field-0 c.in-Chain.e c.in-Chain.ls c.args.w.now c.value-in-Chain.new.w c.links.new.w
    (subst (λ (x : Expr). LowersValue c.args.g.now x c.args.w.now c.value-in-Chain.new.w) c.get-in-Chain.ensures c.in_ok-value-in-Chain.ensures)
    (subst (λ (x : List Link). LowersLinks c.args.g.now x c.value-in-Chain.new.w c.links.new.w) c.as_slice.ensures h))) c.links.ensures

pub links-loop-l-preserved : goal.links-loop-l-preserved
links-loop-l-preserved t c =
    links_on c.args.g.now c.args.ls.now c.loop-l.l-index c.l-item.result c.args.w.now c.loop-l.w c.link.new.w c.loop-l.invariant
    c.loop-l-test.true c.l-item.is c.in_ok-link.ensures

pub links-returns : goal.links-returns
links-returns t c =
    links_over c.args.g.now c.args.ls.now c.loop-l.l-index c.args.w.now c.loop-l.w c.loop-l.invariant c.loop-l-test.false

pub link-returns-in_ok-value-in-None : goal.link-returns-in_ok-value-in-None
link-returns-in_ok-value-in-None t c =
    on_ok c.strict.result (λ h. strict_link c.args.g.now c.args.l.now c.args.w.now c.value.new.w h.mid c.strict.new.w
    (strict_of c.args.l.now.op (sym c.deciding_of.ensures ∙ c.in-None.is)) c.in_ok-value-in-None.ensures h.pushed h.had)
    c.strict.ensures

pub link-returns-in_ok-value-in-Some : goal.link-returns-in_ok-value-in-Some
link-returns-in_ok-value-in-Some t c =
    on_ok c.decided.result (λ h. deciding_link c.args.g.now c.args.l.now c.in-Some.and c.deciding.result c.args.w.now c.push.new.w
    c.value-in-Some.new.w c.decided.new.w (decide_of c.args.l.now.op c.in-Some.and (sym c.deciding_of.ensures ∙ c.in-Some.is))
    c.in_ok-push-in-Some.ensures c.in_ok-value-in-Some.ensures
    (subst (λ k. Decided c.in-Some.and k c.value-in-Some.new.w c.decided.new.w) c.len-test.ensures h)) c.decided.ensures

pub node-returns-in_ok-value-in-Some : goal.node-returns-in_ok-value-in-Some
node-returns-in_ok-value-in-Some t c =
    on_ok c.viewed.result (λ h. subst (λ (x : Node). LowersNode c.args.g.now x c.args.w.now c.viewed.new.w) (sym c.in-View.is)
    (view_done c.args.g.now c.in-View.field-0 c.in-View.e c.in-Some.x.now c.next_term.new.self c.args.w.now c.value-in-Some.new.w c.viewed.new.w
    c.in-Some.ensures
    (subst (λ (x : Expr). LowersValue c.args.g.now x (record { out = c.args.w.now.out; marks = c.next_term.new.self; last = c.args.w.now.last }) c.value-in-Some.new.w) c.get-in-Some.ensures c.in_ok-value-in-Some.ensures)
    h)) c.viewed.ensures

pub node-returns-in_ok-value-in-Post : goal.node-returns-in_ok-value-in-Post
node-returns-in_ok-value-in-Post t c =
    on_ok c.parts.result (λ h. subst (λ (x : Node). LowersNode c.args.g.now x c.args.w.now c.parts.new.w) (sym c.in-Post.is)
    (post_done c.args.g.now true c.in-Post.e c.in-Post.zs c.args.w.now c.value-in-Post.new.w c.parts.new.w
    (subst (λ (x : Expr). LowersValue c.args.g.now x c.args.w.now c.value-in-Post.new.w) c.get-in-Post.ensures c.in_ok-value-in-Post.ensures)
    (subst (λ (x : List Suffix). LowersParts c.args.g.now true x c.value-in-Post.new.w c.parts.new.w) c.as_slice-in-Post.ensures h)))
    c.parts.ensures

pub parts-loop-z-init : goal.parts-loop-z-init
parts-loop-z-init t c = record {
  so = λ new tail. parts_begin c.args.g.now c.args.keeps c.args.zs.now c.args.w.now new (λ e. search (rules, e)) tail;
  left = omega arith;
}

pub parts-loop-z-preserved : goal.parts-loop-z-preserved
parts-loop-z-preserved t c =
    let h = c.loop-z.invariant.left in
    let lt = c.loop-z-test.true in
    let left : (c.loop-z.left - 1) + (c.loop-z.z-index + 1) ≡ length c.args.zs.now = omega (arith, h, lt) in
    record {
      so = parts_step c.args.g.now c.args.keeps c.kept.result c.args.zs.now c.loop-z.z-index (c.loop-z.left - 1) c.z-item.result
          c.args.w.now c.loop-z.w c.part.new.w c.loop-z.invariant.so c.loop-z-test.true c.z-item.is left c.kept.ensures
          c.in_ok-part.ensures;
      left = left;
    }

pub parts-returns : goal.parts-returns
parts-returns t c =
    parts_over c.args.g.now c.args.keeps c.args.zs.now c.loop-z.z-index c.args.w.now c.loop-z.w c.loop-z.invariant.so
    c.loop-z-test.false

pub call-returns-in_ok-args-in-Some : goal.call-returns-in_ok-args-in-Some
call-returns-in_ok-args-in-Some t c =
    let g = c.args.g.now in
    on_ok c.called.result (λ h. call_done g c.args.keeps c.args.f c.args.es.now c.in-Some.path.now c.next_member.new.self
    c.args.w.now c.args-in-Some.new.w c.called.new.w c.in-Some.ensures c.in_ok-args-in-Some.ensures
    h) c.called.ensures

pub args-loop-e-preserved : goal.args-loop-e-preserved
args-loop-e-preserved t c =
    args_on c.args.g.now c.args.es.now c.loop-e.e-index c.e-item.result c.args.w.now c.loop-e.w c.value.new.w c.loop-e.invariant
    c.loop-e-test.true c.e-item.is c.in_ok-value.ensures

pub args-returns : goal.args-returns
args-returns t c =
    args_over c.args.g.now c.args.es.now c.loop-e.e-index c.args.w.now c.loop-e.w c.loop-e.invariant c.loop-e-test.false

pub node-returns-in-New : goal.node-returns-in-New
node-returns-in-New t c =
    let g = c.args.g.now in
    on_ok c.made.result (λ h. subst (λ (x : Node). LowersNode g x c.args.w.now c.made.new.w) (sym c.in-New.is)
    (subst (λ (es : List Expr). LowersNode g (node.New c.in-New.field-0 es) c.args.w.now c.made.new.w) c.as_slice-in-New.ensures
    (h c.in-New.field-0))) c.made.ensures

pub node-returns-in-Super : goal.node-returns-in-Super
node-returns-in-Super t c =
    let g = c.args.g.now in
    on_ok c.upward.result (λ h. subst (λ (x : Node). LowersNode g x c.args.w.now c.upward.new.w) (sym c.in-Super.is)
    (subst (λ (es : List Expr). LowersNode g (node.Super c.in-Super.field-0 c.in-Super.f es) c.args.w.now c.upward.new.w)
    c.as_slice-in-Super.ensures (h c.in-Super.field-0))) c.upward.ensures

pub made-returns-in_ok-args-in-Some : goal.made-returns-in_ok-args-in-Some
made-returns-in_ok-args-in-Some t c =
    on_ok c.made_of.result (λ h u. made_done c.args.g.now u c.args.es.now c.args.keeps c.in-Some.x.now c.in_ok-ctor-in-Some.ctor
    c.args.w.now (record c.args.w.now { marks = c.next_term.new.self }) c.made_by.new.w c.args-in-Some.new.w c.made_of.new.w refl
    c.in-Some.ensures c.in_ok-ctor-in-Some.ensures c.in_ok-args-in-Some.ensures h) c.made_of.ensures

pub upward-returns-then-is_empty : goal.upward-returns-then-is_empty
upward-returns-then-is_empty t c =
    let none : length c.args.es.now ≡ 0 = search rules in
    on_ok c.bare_above.result (λ h u. bare_split c.args.g.now u c.args.f c.args.es.now c.args.keeps c.in_ok-x.x c.args.w.now
    c.found_above.new.w c.bare_above.new.w none c.in_ok-x.ensures h) c.bare_above.ensures

pub upward-returns-in_ok-further : goal.upward-returns-in_ok-further
upward-returns-in_ok-further t c =
    let some : 0 < length c.args.es.now = search rules in
    on_ok c.called_above.result (λ h u. above_split c.args.g.now u c.args.f c.args.es.now c.index-es-0.result c.args.keeps c.in_ok-x.x
    c.args.w.now c.found_above.new.w c.value.new.w c.tucked.new.w c.further.new.w c.called_above.new.w some c.in_ok-x.ensures
    (subst (λ (e : Expr). LowersValue c.args.g.now e c.found_above.new.w c.value.new.w) c.index-es-0.is c.in_ok-value.ensures)
    c.in_ok-tucked.ensures c.in_ok-further.ensures h) c.called_above.ensures

pub further-loop-i-preserved : goal.further-loop-i-preserved
further-loop-i-preserved t c =
    further_on c.args.g.now c.args.es.now c.loop-i.i c.index-es-i.result c.args.w.now c.loop-i.w c.value.new.w c.loop-i.invariant
    c.loop-i-test.true
    (subst (λ (e : Expr). LowersValue c.args.g.now e c.loop-i.w c.value.new.w) c.index-es-i.is c.in_ok-value.ensures)

pub further-returns : goal.further-returns
further-returns t c =
    further_over c.args.g.now c.args.es.now c.loop-i.i c.args.w.now c.loop-i.w c.loop-i.invariant c.loop-i-test.false
