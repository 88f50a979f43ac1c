use Rattle.std.proofs.Common.{List}
use Rattle.jn_base.specs.declared.tree.Name.{Name}
use Rattle.jn_share.specs.Parts.{SaysTwo}
use Rattle.jn_share.specs.Parting.{SamePart}
use Rattle.jn_share.specs.Prepared.{AreDecls}
use Rattle.jn_share.proofs.FieldLists.{SameTo}
use Rattle.jn_share.proofs.alike.same_fields.Given as goal

abbrev pub invariant-loop-i : goal.invariant-loop-i
invariant-loop-i l = SaysTwo l.t l.g l.types l.all l.v l.w (λ p V W. (fields : List Name) → AreDecls p l.t.known.items l.types.list.items V fields l.dvs
    → AreDecls p l.t.known.items l.types.list.items W fields l.dws → SameTo p (SamePart l.t.known.items l.parts) V W fields l.i)
