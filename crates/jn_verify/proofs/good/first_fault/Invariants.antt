use Rattle.std.proofs.Common.{◌≡◌, drop}
use Rattle.jn_code.specs.Valid.{rows_fault, first_fault}
use Rattle.jn_verify.proofs.good.first_fault.Given as goal

abbrev pub invariant-loop-k : goal.invariant-loop-k
invariant-loop-k l = rows_fault l.image l.k (drop l.k l.image.classes) ≡ first_fault l.image
