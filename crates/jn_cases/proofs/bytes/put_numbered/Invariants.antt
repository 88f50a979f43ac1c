use Rattle.std.proofs.Common.{◌≡◌, ◌++◌}
use Rattle.jn_cases.specs.Cases.{numbered}
use Rattle.jn_cases.proofs.bytes.put_numbered.Given as goal

-- the numbers so far are put
abbrev pub invariant-loop-i : goal.invariant-loop-i
invariant-loop-i l = l.bytes.items ≡ l.initial.bytes.items ++ numbered l.before l.first l.i l.behind
