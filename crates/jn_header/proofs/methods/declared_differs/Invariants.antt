use Rattle.jn_base.specs.declared.tree.Program.{Program}
use Rattle.jn_base.specs.Paths.{Path}
use Rattle.jn_table.specs.Rows.{IsNumber}
use Rattle.jn_table.specs.declared.table.Table.{Table}
use Rattle.jn_sem.specs.Does.{Body}
use Rattle.jn_header.specs.Bodies.{AreBodies, IsHeadOf}
use Rattle.jn_header.proofs.MethodNames.{NoOtherTo}
use Rattle.jn_header.proofs.methods.declared_differs.Given as goal

abbrev pub invariant-loop-other : goal.invariant-loop-other
invariant-loop-other l =
    (b : Body) (p : Program) (t : Table) (R : Path) → AreBodies p t l.bodies → IsNumber t.known.items l.id R
    → IsHeadOf p b l.own → NoOtherTo p t.known.items b l.name R l.declaring l.other-index
