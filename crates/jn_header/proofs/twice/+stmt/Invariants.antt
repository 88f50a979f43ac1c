use Rattle.std.proofs.Common.{◌≡◌, List, take, length}
use Rattle.jn_base.specs.declared.tree.Name.{Name}
use Rattle.jn_header.specs.First.{SameNames}
use Rattle.jn_header.proofs.TwiceSteps.{LeftOfBlock}
use Rattle.jn_header.proofs.twice.+stmt.Given as goal

abbrev pub invariant-in_block-loop-stmt : goal.invariant-in_block-loop-stmt
invariant-in_block-loop-stmt l =
    (l.outer ≡ length l.fn.scope.items)
    × ((take l.outer l.scope.items ≡ l.fn.scope.items)
    × ((S : List Name) → SameNames l.fn.scope.items S → LeftOfBlock l.stmts S l.stmt-index l.scope.items))
