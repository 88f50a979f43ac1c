use Rattle.jn_header.proofs.Unknowns.{NoneTill}
use Rattle.jn_header.proofs.unknown.first_unknown.Given as goal

abbrev pub invariant-loop-path : goal.invariant-loop-path
invariant-loop-path l = NoneTill l.p l.table.known.items l.path-index
