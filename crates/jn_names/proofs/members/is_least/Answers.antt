use Rattle.jn_reach.proofs.Searches.{not_when}
use Rattle.jn_names.proofs.MemberRowProof.{least_row, when_not}
use Rattle.jn_names.proofs.members.is_least.Goals as goal

pub returns-then-are_above : goal.returns-then-are_above
returns-then-are_above c = λ h one.
    least_row c.args.rows.now c.args.ids.now c.args.among.now c.args.a one (c.are_above.ensures c.if-are_above.true)
    (not_when (when_not c.has_lower.result h) c.has_lower.ensures)
