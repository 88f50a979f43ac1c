use Rattle.jn_share.specs.Firsts.{AreRelated}
use Rattle.jn_share.specs.Prepared.{AreDecls}
use Rattle.jn_share.specs.Refining.{SaysClass, AreSettled}
use Rattle.jn_share.proofs.FieldRows.{RowTo}
use Rattle.jn_share.proofs.firsts.firsts_row.Given as goal

abbrev pub invariant-loop-i : goal.invariant-loop-i
invariant-loop-i l = SaysClass l.t l.g l.types l.all l.v.0 (λ p V. AreSettled p l.t.known.items l.parts → AreRelated p l.t.known.items l.among V
    → AreDecls p l.t.known.items l.types.list.items V l.fields l.decls → RowTo p l.t.known.items V l.fields l.i l.row.items)
