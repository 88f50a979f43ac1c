use Rattle.std.proofs.Common.{length, sym, ap, subst, arith}
use Rattle.jn_base.specs.Universe.{InUniverse}
use Rattle.jn_reach.proofs.Searches.{iff_true, not_when}
use Rattle.jn_subtype.proofs.EndShapes.{turned, super_of, level_ends, higher_ends, else_known}
use Rattle.jn_subtype.proofs.ends.ends.Goals as goal

pub returns-then-is_level : goal.returns-then-is_level
returns-then-is_level c = λ p f.
    iff_true (level_ends (c.is_level.ensures.0 c.if-is_level.true) (super_of c.in_ok-from.ensures c.in_ok-to.ensures ((c.is_below.ensures p f).0 c.if-not-is_below.false)))

pub returns : goal.returns
returns c = λ p f.
    let from = c.in_ok-from.ensures in
    let to = c.in_ok-to.ensures in
    let known = c.is_known.ensures p f in (
      λ h. higher_ends (c.is_higher.ensures.0 c.if-not-is_higher.false)
          (omega (arith, c.if-depth-names.false, c.depth.ensures, ap length to, turned c.args.y.now.names c.names.result.now c.names.ensures))
          (subst (InUniverse p) from (known.0 h)) (super_of from to ((c.is_below.ensures p f).0 c.if-not-is_below.false)),
      λ e. known.1 (subst (InUniverse p) (sym from) (else_known (not_when c.if-is_level.false c.is_level.ensures) e)),
    )
