use Rattle.std.proofs.Common.{drop}
use Rattle.jn_homes.proofs.Housing.{Searched}
use Rattle.jn_homes.proofs.homes.find_decl.Given as goal

abbrev pub invariant-loop-d : goal.invariant-loop-d
invariant-loop-d l = Searched l.decls (drop l.d-index l.decls) l.name
