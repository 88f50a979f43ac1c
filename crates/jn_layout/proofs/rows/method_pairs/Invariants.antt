use Rattle.std.proofs.Common.{take, List}
use Rattle.jn_base.specs.declared.tree.Program.{Program}
use Rattle.jn_base.specs.Paths.{Path}
use Rattle.jn_table.specs.declared.table.Table.{Table}
use Rattle.jn_table.specs.Rows.{IsNumber}
use Rattle.jn_agree.specs.Naming.{Naming}
use Rattle.jn_layout.specs.Pairs.{Gathers}
use Rattle.jn_agree.specs.declared.selectors.MethodSel.{MethodSel}
use Rattle.jn_layout.specs.declared.declared.BodyAt.{BodyAt}
use Rattle.jn_layout.specs.Finding.{MethodsPlaced}
use Rattle.jn_layout.specs.Lookups.{MethodsAsked, MethodPair}
use Rattle.jn_layout.proofs.rows.method_pairs.Given as goal

abbrev pub invariant-loop-name : goal.invariant-loop-name
invariant-loop-name l = (p : Program) (t : Table) (n : Naming) (R : Path) (names : List MethodSel) (bodies : List BodyAt) → MethodsAsked p t l.m names bodies n
    → MethodsPlaced bodies names l.finder → IsNumber t.known.items l.id R
    → Gathers (MethodPair p n R) (take l.name-index l.list) l.all.items
