use Rattle.std.proofs.Common.{◌↔◌, IsTrue, subst}
use Rattle.jn_reach.proofs.Searches.{same_some}
use Rattle.jn_table.specs.declared.class.ClassId.{ClassId}
use Rattle.jn_names.specs.MemberRows.{SupAtRow}
use Rattle.jn_names.proofs.members.is_lower_yet.Goals as goal

pub returns-in-Some : goal.returns-in-Some
returns-in-Some c = λ a e.
    subst (λ (x : ClassId). IsTrue c.has_sup.result ↔ SupAtRow c.args.rows.now c.args.s x)
    (same_some c.args.low c.in-Some.a a c.in-Some.is e) c.has_sup.ensures
