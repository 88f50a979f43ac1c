use Rattle.jn_base.specs.declared.tree.Program.{Program}
use Rattle.jn_base.specs.Paths.{Path}
use Rattle.jn_base.specs.Supers.{Sup}
use Rattle.jn_table.specs.Rows.{AreClasses}
use Rattle.jn_table.specs.declared.table.Table.{Table}
use Rattle.jn_sem.specs.Does.{Body}
use Rattle.jn_header.specs.Bodies.{AreBodies, IsHeadOf}
use Rattle.jn_header.specs.Methods.{IsOtherAt}
use Rattle.jn_header.proofs.Numbers.{EachTo}
use Rattle.jn_header.proofs.methods.super_differs.Given as goal

abbrev pub invariant-loop-id : goal.invariant-loop-id
invariant-loop-id l =
    (b : Body) (p : Program) (t : Table) (R : Path) → AreBodies p t l.bodies
    → AreClasses p t.known.items (Sup p R) l.sups → IsHeadOf p b l.own
    → EachTo (λ (S : Path). IsOtherAt p b l.name S → ⊥) t.known.items l.sups l.id-index
