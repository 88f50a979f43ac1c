use Rattle.std.proofs.Common.{List, false, subst, sym}
use Rattle.jn_base.specs.declared.tree.Expr.{Expr}
use Rattle.jn_base.specs.declared.tree.Node.{Node}
use Rattle.jn_base.specs.declared.tree.Node.TheVariants as node
use Rattle.jn_base.specs.declared.tree.Suffix.{Suffix}
use Rattle.jn_lower.specs.Walks.{LowersValue, LowersNodeAs, LowersParts}
use Rattle.jn_lower.proofs.Seams.{on_ok}
use Rattle.jn_lower.proofs.LeafForms.{at_place}
use Rattle.jn_lower.proofs.Posts.{post_done}
use Rattle.jn_lower.proofs.walk_exprs.effect.Goals as goal

pub returns-in_ok-value-in-Post : goal.returns-in_ok-value-in-Post
returns-in_ok-value-in-Post c =
    let g = c.args.g.now in
    on_ok c.parts.result (λ h. at_place g false c.args.e.now c.args.w.now c.parts.new.w
    (subst (λ (x : Node). LowersNodeAs g false x c.args.w.now c.parts.new.w) (sym c.in-Post.is)
    (post_done g false c.in-Post.r c.in-Post.zs c.args.w.now c.value.new.w c.parts.new.w
    (subst (λ (x : Expr). LowersValue g x c.args.w.now c.value.new.w) c.get.ensures c.in_ok-value-in-Post.ensures)
    (subst (λ (x : List Suffix). LowersParts g false x c.value.new.w c.parts.new.w) c.as_slice.ensures h)))) c.parts.ensures

pub returns-in-New : goal.returns-in-New
returns-in-New c =
    let g = c.args.g.now in
    on_ok c.made.result (λ h. at_place g false c.args.e.now c.args.w.now c.made.new.w
    (subst (λ (x : Node). LowersNodeAs g false x c.args.w.now c.made.new.w) (sym c.in-New.is)
    (subst (λ (es : List Expr). LowersNodeAs g false (node.New c.in-New.field-0 es) c.args.w.now c.made.new.w) c.as_slice-in-New.ensures
    (h c.in-New.field-0)))) c.made.ensures

pub returns-in-Super : goal.returns-in-Super
returns-in-Super c =
    let g = c.args.g.now in
    on_ok c.upward.result (λ h. at_place g false c.args.e.now c.args.w.now c.upward.new.w
    (subst (λ (x : Node). LowersNodeAs g false x c.args.w.now c.upward.new.w) (sym c.in-Super.is)
    (subst (λ (es : List Expr). LowersNodeAs g false (node.Super c.in-Super.field-0 c.in-Super.f es) c.args.w.now c.upward.new.w)
    c.as_slice-in-Super.ensures (h c.in-Super.field-0)))) c.upward.ensures
