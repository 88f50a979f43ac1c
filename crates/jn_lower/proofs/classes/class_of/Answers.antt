use Rattle.std.proofs.Common.{ap, sym, ◌∙◌}
use Rattle.jn_base.specs.declared.types.Anchor.TheVariants.{Up}
use Rattle.jn_lower.proofs.Seams.{on_ok}
use Rattle.jn_lower.proofs.ClassCodes.{seen_added}
use Rattle.jn_lower.proofs.classes.class_of.Goals as goal

pub returns-in_ok-at-in-Up : goal.returns-in_ok-at-in-Up
returns-in_ok-at-in-Up c =
    on_ok c.seen_class.result
    (λ adds n classes. seen_added n c.args.x.now c.in_ok-at-in-Up.at c.in-Up.levels c.args.out.now c.seen_class.new.out
    (c.in-Up.is ∙ ap (λ q. Up q c.in-Up.levels) (sym c.in_ok-at-in-Up.ensures)) adds) c.seen_class.ensures
