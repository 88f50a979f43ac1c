use Rattle.std.proofs.Common.{◌≡◌, ◌≤◌, ◌+◌, length, drop, All}
use Rattle.jn_code.specs.Valid.{pass, pass_from}
use Rattle.jn_verify.specs.Tails.{seen, IsThere}
use Rattle.jn_verify.proofs.pass.code_fault.Given as goal

abbrev pub invariant-loop-n : goal.invariant-loop-n
invariant-loop-n l = record {
  passed : pass_from l.image l.code l.n (drop l.n l.code.instrs) (seen l.tails l.notes.items) ≡ pass l.image l.code;
  few : length l.tails ≤ l.n + 1;
  known : All (IsThere l.tails) l.notes.items;
}
