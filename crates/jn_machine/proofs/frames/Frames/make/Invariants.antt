use Rattle.std.proofs.Common.{◌≡◌, length}
use Rattle.jn_machine.specs.Sizes.{EachSized}
use Rattle.jn_machine.proofs.frames.Frames.make.Given as goal

abbrev pub invariant-loop : goal.invariant-loop
invariant-loop l = record {
  counted : length l.pool.items ≡ l.counter;
  sized : EachSized l.wide l.high l.pool.items;
}
