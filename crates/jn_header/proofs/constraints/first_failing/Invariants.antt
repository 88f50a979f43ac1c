use Rattle.std.proofs.Common.{◌≡◌}
use Rattle.jn_base.specs.declared.tree.Program.{Program}
use Rattle.jn_base.specs.ResolveTypes.{mask_names}
use Rattle.jn_table.specs.Rows.{IsNumber}
use Rattle.jn_sem.specs.Sharing.{IsClass}
use Rattle.jn_rules.specs.Members.{FailsFor}
use Rattle.jn_header.specs.Bodies.{AreBodies}
use Rattle.jn_header.specs.Shared.{AreShared}
use Rattle.jn_header.proofs.BadMembers.{NoneTo}
use Rattle.jn_header.proofs.constraints.first_failing.Given as goal

abbrev pub invariant-loop-name : goal.invariant-loop-name
invariant-loop-name l =
    (p : Program) → AreBodies p l.t l.bodies → AreShared p l.t.known.items l.shared → l.names ≡ mask_names p → IsNumber l.t.known.items l.id l.class → IsClass p l.class
    → NoneTo (FailsFor p l.class) l.methods l.name-index
