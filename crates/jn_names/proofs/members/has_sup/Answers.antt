use Rattle.std.proofs.Common.{refl}
use Rattle.jn_names.specs.declared.member_row.MemberRow.{MemberRow}
use Rattle.jn_names.proofs.MemberRowProof.{of_row}
use Rattle.jn_names.proofs.members.has_sup.Goals as goal

pub returns-in-Some : goal.returns-in-Some
returns-in-Some c =
    of_row c.args.rows.now c.args.a.0 c.in-Some.row.now (λ (w : MemberRow). w.sups.items) c.args.b c.is_super.result
    c.in-Some.row.now.sups.items c.in-Some.ensures refl c.is_super.ensures
