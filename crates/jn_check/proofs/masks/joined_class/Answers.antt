use Rattle.std.proofs.Common.{◌∙◌, ap, rules}
use Rattle.jn_rules.specs.Questions.{masks_of}
use Rattle.jn_intern.specs.Pools.{shown}
use Rattle.jn_check.proofs.Masking.{same_class, both_shown}
use Rattle.jn_check.proofs.masks.joined_class.Goals as goal

pub returns-then-are_same-clause-is : goal.returns-then-are_same-clause-is
returns-then-are_same-clause-is c = λ p.
    same_class p (shown c.args.pool.now c.args.t) (shown c.args.pool.now c.args.u) c.masks_of-m.result c.masks_of-n.result c.requires.class c.requires.other
    (c.masks_of-m.ensures ∙ ap masks_of c.show.ensures) (c.masks_of-n.ensures ∙ ap masks_of c.show-2.ensures) c.joined_masks-k.result c.joined_masks-k.ensures (search rules)

pub returns-clause-is : goal.returns-clause-is
returns-clause-is c =
    both_shown (shown c.args.pool.now c.args.t) (shown c.args.pool.now c.args.u) c.masks_of-m.result c.masks_of-n.result c.requires.class c.requires.other
    (c.masks_of-m.ensures ∙ ap masks_of c.show.ensures) (c.masks_of-n.ensures ∙ ap masks_of c.show-2.ensures) c.joined_masks-k.result c.joined_masks-k.ensures
    c.remasked.new.pool c.remasked.result c.remasked.ensures.is
