use Rattle.std.proofs.Common.{subst}
use Rattle.jn_reach.proofs.Searches.{same_some}
use Rattle.jn_table.specs.declared.class.ClassId.{ClassId}
use Rattle.jn_share.specs.Slots.{SaysHangs}
use Rattle.jn_layout.proofs.selecting.own_kind.Goals as goal

pub returns-in-Some : goal.returns-in-Some
returns-in-Some c = λ id e. (
  c.hangs.result,
  subst (λ (i : ClassId). SaysHangs c.args.s.now i c.args.x.now.name c.hangs.result) (same_some c.args.x.now.class c.in-Some.id id c.in-Some.is e) c.hangs.ensures,
  c.kind_at.ensures,
)
