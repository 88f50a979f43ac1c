use Rattle.jn_reach.proofs.Eachs.{Each-more, Each-none}
use Rattle.jn_table.specs.Order.{SpelledOf}
use Rattle.jn_base.specs.declared.tree.Name.{Name}
use Rattle.jn_table.specs.declared.order.Spelled.{Spelled}
use Rattle.jn_table.proofs.Orders.{each_all}
use Rattle.jn_table.proofs.Places.{same_item}
use Rattle.jn_table.proofs.order.all_spelled.Goals as goal

pub loop-name-init : goal.loop-name-init
loop-name-init c =
    Each-none (λ (name : Name) (s : Spelled). SpelledOf c.args.texts.now name s) _ c.new-all.ensures.items

pub loop-name-preserved : goal.loop-name-preserved
loop-name-preserved c =
    rw c.in_ok-push.ensures.items
    (Each-more (λ (name : Name) (s : Spelled). SpelledOf c.args.texts.now name s) _ _ _ _ _
    c.loop-name-test.true (same_item _ _ _ c.loop-name-test.true) c.loop-name.invariant c.in_ok-one.ensures)

pub returns : goal.returns
returns c = each_all (λ (name : Name)
    (s : Spelled). SpelledOf c.args.texts.now name s) _ _ _ c.loop-name-test.false c.loop-name.invariant
