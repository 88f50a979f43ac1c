use Rattle.std.proofs.Common.{◌≡◌, drop}
use Rattle.jn_base.specs.Duplicates.{has_name}
use Rattle.jn_header.proofs.twice.has_name.Given as goal

abbrev pub invariant-loop-n : goal.invariant-loop-n
invariant-loop-n l = has_name (drop l.n-index l.names) l.name ≡ has_name l.fn.names l.fn.name
