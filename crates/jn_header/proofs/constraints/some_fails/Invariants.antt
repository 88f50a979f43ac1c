use Rattle.std.proofs.Common.{◌≡◌, List}
use Rattle.jn_reach.specs.Each.{Each}
use Rattle.jn_base.specs.declared.tree.Constraint.{Constraint}
use Rattle.jn_base.specs.declared.tree.Program.{Program}
use Rattle.jn_base.specs.ResolveTypes.{mask_names}
use Rattle.jn_table.specs.Tables.{IsFilled}
use Rattle.jn_sem.specs.Does.{Body}
use Rattle.jn_heads.specs.Sides.{IsPledge}
use Rattle.jn_header.specs.Shared.{AreShared}
use Rattle.jn_header.proofs.Rooting.{HoldTo}
use Rattle.jn_header.proofs.constraints.some_fails.Given as goal

abbrev pub invariant-loop-pledge : goal.invariant-loop-pledge
invariant-loop-pledge l =
    (p : Program) (b : Body) (cs : List Constraint) → IsFilled p l.t → AreShared p l.t.known.items l.shared → l.names ≡ mask_names p
    → Each (IsPledge p b.class b.method.name.name) cs l.pledges → HoldTo p l.class b cs l.pledge-index
