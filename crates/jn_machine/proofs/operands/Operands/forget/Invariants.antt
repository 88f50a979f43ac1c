use Rattle.std.proofs.Common.{◌≡◌, ◌≤◌, drop, length}
use Rattle.jn_machine.proofs.operands.Operands.forget.Given as goal

abbrev pub invariant-loop-left : goal.invariant-loop-left
invariant-loop-left l = record {
  has : l.left ≤ length l.self.words;
  rest : drop l.left l.self.words ≡ drop l.count l.fn.self.words;
  limit : l.self.limit ≡ l.fn.self.limit;
}

abbrev pub decreases-loop-left : goal.decreases-loop-left
decreases-loop-left l = l.left
