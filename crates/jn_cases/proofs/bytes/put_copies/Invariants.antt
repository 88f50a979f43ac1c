use Rattle.std.proofs.Common.{◌≡◌, ◌++◌}
use Rattle.jn_cases.specs.Cases.{copies}
use Rattle.jn_cases.proofs.bytes.put_copies.Given as goal

-- the bytes have grown by as many copies as were put
abbrev pub invariant-loop : goal.invariant-loop
invariant-loop l = l.bytes.items ≡ l.initial.bytes.items ++ copies l.counter l.piece
