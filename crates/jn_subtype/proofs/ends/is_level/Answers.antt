use Rattle.std.proofs.Common.{◌≡◌, sym, ◌∙◌, eqb-true}
use Rattle.jn_base.specs.Atoms.{Atom}
use Rattle.jn_reach.proofs.Searches.{iff_false, not_when}
use Rattle.jn_subtype.proofs.EndShapes.{equal_true, level_shown, level_front, level_long}
use Rattle.jn_subtype.proofs.ends.is_level.Goals as goal

pub returns-then-not-is_front : goal.returns-then-not-is_front
returns-then-not-is_front c =
    let x : Atom = c.args.x.now in
    let y : Atom = c.args.y.now in
    iff_false (λ h. not_when c.if-not-is_front.true c.is_front.ensures (level_front x y _ _ c.exact-had.ensures c.exact-left.ensures h))

pub returns : goal.returns
returns c =
    let x : Atom = c.args.x.now in
    let y : Atom = c.args.y.now in
    let anchor : x.anchor ≡ y.anchor = sym c.anchor.ensures ∙ c.is_anchor.ensures.0 c.if-not-is_anchor.false ∙ c.anchor-2.ensures in (
      λ e. level_shown x y _ _ _ _ c.exact-had.ensures c.exact-left.ensures c.names-2.ensures c.names.ensures anchor
          (c.is_front.ensures.0 c.if-not-is_front.false) (eqb-true _ _ e),
      λ h. equal_true _ _ (level_long x y _ _ _ _ c.exact-had.ensures c.exact-left.ensures c.names-2.ensures c.names.ensures h),
    )
