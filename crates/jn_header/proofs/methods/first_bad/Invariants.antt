use Rattle.jn_base.specs.declared.tree.Program.{Program}
use Rattle.jn_base.specs.Paths.{Path}
use Rattle.jn_table.specs.Rows.{IsNumber}
use Rattle.jn_rules.specs.Members.{BadMethod}
use Rattle.jn_header.specs.Bodies.{AreBodies}
use Rattle.jn_header.proofs.BadMembers.{NoneTo}
use Rattle.jn_header.proofs.methods.first_bad.Given as goal

abbrev pub invariant-loop-name : goal.invariant-loop-name
invariant-loop-name l = (p : Program) (R : Path) → AreBodies p l.t l.bodies → IsNumber l.t.known.items l.id R → NoneTo (BadMethod p R) l.names l.name-index
