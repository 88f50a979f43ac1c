use Rattle.std.proofs.Common.{◌≤◌, take}
use Rattle.std.specs.Prelude.{All}
use Rattle.jn_machine.specs.Calls.{IsWide}
use Rattle.jn_machine.proofs.widths.widest.Given as goal

abbrev pub invariant-loop-code : goal.invariant-loop-code
invariant-loop-code l = record {
  all : All (IsWide l.wide) (take l.code-index l.codes);
  most : l.wide ≤ 255;
}
