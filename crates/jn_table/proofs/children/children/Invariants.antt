use Rattle.jn_table.specs.Children.{ChildrenFront}
use Rattle.jn_table.proofs.children.children.Given as goal

abbrev pub invariant-loop-up : goal.invariant-loop-up
invariant-loop-up l = ChildrenFront l.entries l.order l.level l.up l.room l.all.items
