use Rattle.std.proofs.Common.{◌≡◌, ◌+◌, ◌≤◌, ◌∷◌, length, drop, take, suc, [], replicate, pos}
use Rattle.jn_machine.specs.Sizes.{taken, drop_args}
use Rattle.jn_machine.proofs.frames.move_args.Given as goal

abbrev pub decreases-loop-k : goal.decreases-loop-k
decreases-loop-k l = l.k

abbrev pub invariant-loop-k : goal.invariant-loop-k
invariant-loop-k l = record {
  has : l.k ≤ length l.now.words;
  long : length l.next.words ≡ l.args + l.locals + 1;
  within : l.k ≤ l.args;
  left : drop_args l.k l.now.words ≡ drop_args l.args l.fn.now.words;
  first : take 1 l.next.words ≡ pos 0 ∷ [];
  vars : taken l.k l.now.words (drop (suc l.k) l.next.words) ≡ taken l.args l.fn.now.words (replicate l.locals (pos 0));
  limit : l.now.limit ≡ l.fn.now.limit;
  next_limit : l.next.limit ≡ l.fn.next.limit;
}
