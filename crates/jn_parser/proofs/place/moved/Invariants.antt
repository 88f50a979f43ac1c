use Rattle.std.proofs.Common.{◌≡◌, ◌+◌, ◌≤◌, length, drop}
use Rattle.jn_parser.specs.Moved.{moved}
use Rattle.jn_parser.proofs.place.moved.Given as goal

abbrev pub invariant-loop-b : goal.invariant-loop-b
invariant-loop-b l = record {
  so_far : moved (record { line = l.line; column = l.column }) (drop l.b-index l.bytes) ≡ moved l.fn.from l.bytes;
  line : l.line + length (drop l.b-index l.bytes) ≤ 4_000_000;
  column : l.column + length (drop l.b-index l.bytes) ≤ 4_000_000;
}
