use Rattle.std.proofs.Common.{◌≤◌, take}
use Rattle.std.specs.Prelude.{All}
use Rattle.jn_machine.specs.Calls.{IsHigh}
use Rattle.jn_machine.proofs.widths.highest.Given as goal

abbrev pub invariant-loop-code : goal.invariant-loop-code
invariant-loop-code l = record {
  all : All (IsHigh l.high) (take l.code-index l.codes);
  most : l.high ≤ 4096;
}
