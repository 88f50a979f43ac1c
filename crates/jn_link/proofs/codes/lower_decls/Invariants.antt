use Rattle.std.proofs.Common.{map, take}
use Rattle.jn_base.specs.Paths.{Path}
use Rattle.jn_agree.specs.Rows.{of_decl}
use Rattle.jn_layout.specs.Shapes.{all_bodies}
use Rattle.jn_link.specs.Codes.{LowersAll}
use Rattle.jn_link.proofs.codes.lower_decls.Given as goal

abbrev pub invariant-loop-d : goal.invariant-loop-d
invariant-loop-d l = (R : Path) → LowersAll l.g (all_bodies R (map of_decl (take l.d-index l.decls))) l.fn.out l.out
