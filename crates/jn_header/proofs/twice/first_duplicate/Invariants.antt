use Rattle.jn_header.proofs.TwiceSteps.{LeftOfDecls}
use Rattle.jn_header.proofs.twice.first_duplicate.Given as goal

abbrev pub invariant-loop-d : goal.invariant-loop-d
invariant-loop-d l = LeftOfDecls l.p.decls l.d-index l.seen.keys
