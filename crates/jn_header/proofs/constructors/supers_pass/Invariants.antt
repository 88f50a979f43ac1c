use Rattle.std.proofs.Common.{option_copied}
use Rattle.jn_base.specs.declared.tree.Program.{Program}
use Rattle.jn_base.specs.Paths.{Path}
use Rattle.jn_base.specs.Supers.{Sup}
use Rattle.jn_table.specs.Rows.{AreClasses}
use Rattle.jn_header.specs.Bodies.{AreBodies}
use Rattle.jn_header.specs.Constructors.{constructor_signature, PassesAt}
use Rattle.jn_header.proofs.Numbers.{EachTo}
use Rattle.jn_header.proofs.constructors.supers_pass.Given as goal

abbrev pub invariant-loop-id : goal.invariant-loop-id
invariant-loop-id l =
    (p : Program) (R : Path) → AreBodies p l.t l.bodies → AreClasses p l.t.known.items (Sup p R) l.sups
    → EachTo (PassesAt p (constructor_signature (option_copied l.own)) l.name) l.t.known.items l.sups l.id-index
