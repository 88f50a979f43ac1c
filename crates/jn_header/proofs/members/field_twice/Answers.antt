use Rattle.std.proofs.Common.{subst, List}
use Rattle.jn_base.specs.declared.tree.Name.{Name}
use Rattle.jn_table.specs.Rows.{HasField}
use Rattle.jn_rules.specs.Members.{BadField}
use Rattle.jn_header.specs.Members.{FirstOf}
use Rattle.jn_header.proofs.BadMembers.{by_bytes}
use Rattle.jn_header.proofs.members.field_twice.Goals as goal

pub returns : goal.returns
returns c = λ p R m n.
    by_bytes p (BadField p R) (HasField p R) c.row.result.now.fields.items (c.row.ensures p R m.filled.table n).fields (λ f b. (b.one, b.at_one)) c.first_twice.result
    (subst (λ (xs : List Name). FirstOf (BadField p R) xs c.first_twice.result) c.deref.ensures.value (c.first_twice.ensures p c.args.t.now R m n))
