use Rattle.jn_base.specs.declared.tree.Program.{Program}
use Rattle.jn_base.specs.Paths.{Path}
use Rattle.jn_table.specs.declared.table.Table.{Table}
use Rattle.jn_table.specs.Rows.{IsNumber}
use Rattle.jn_names.specs.Members.{IsMembersOf}
use Rattle.jn_rules.specs.Members.{BadField}
use Rattle.jn_header.proofs.BadMembers.{NoneTo}
use Rattle.jn_header.proofs.members.first_twice.Given as goal

abbrev pub invariant-loop-f : goal.invariant-loop-f
invariant-loop-f l = (p : Program) (t : Table) (R : Path) → IsMembersOf p t l.members → IsNumber t.known.items l.id R → NoneTo (BadField p R) l.names l.f-index
