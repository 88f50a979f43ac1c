use Rattle.std.proofs.Common.{◌≡◌, drop}
use Rattle.jn_code.specs.Valid.{codes_fault}
use Rattle.jn_verify.proofs.good.codes_fault.Given as goal

abbrev pub invariant-loop-k : goal.invariant-loop-k
invariant-loop-k l = codes_fault l.image l.k (drop l.k l.image.codes) ≡ codes_fault l.image 0 l.image.codes
