use Rattle.std.proofs.Common.{◌∙◌, sym, refl}
use Rattle.jn_lower.specs.Making.{by, without}
use Rattle.jn_lower.proofs.NextLocals.{if_ok}
use Rattle.jn_lower.proofs.walk_new.made_alone.Goals as goal

pub returns-then-has : goal.returns-then-has
returns-then-has c =
    if_ok c.by_mark.result (λ ctor f. by (λ e. c.in_ok-has.ensures.yes c.if-has.true)
    (f c.args.name c.requires.last)) c.by_mark.ensures

pub returns-else-has : goal.returns-else-has
returns-else-has c =
    if_ok c.constructor_number.result (λ ctor f. without refl (c.in_ok-has.ensures.no c.if-has.false) refl
    (λ n e. f n (e ∙ sym c.as_slice.ensures))) c.constructor_number.ensures
