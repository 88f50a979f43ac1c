use Rattle.std.proofs.Common.{subst, List}
use Rattle.jn_base.specs.declared.tree.Name.{Name}
use Rattle.jn_table.specs.Rows.{HasMethod}
use Rattle.jn_rules.specs.Members.{BadMethod}
use Rattle.jn_header.specs.Members.{FirstOf}
use Rattle.jn_header.proofs.BadMembers.{by_bytes}
use Rattle.jn_header.proofs.MethodNames.{bad_has}
use Rattle.jn_header.proofs.methods.bad_method.Goals as goal

pub returns : goal.returns
returns c = λ p R bo n.
    by_bytes p (BadMethod p R) (HasMethod p R) c.row.result.now.methods.items (c.row.ensures p R bo.members.filled.table n).methods (bad_has p R) c.first_bad.result
    (subst (λ (xs : List Name). FirstOf (BadMethod p R) xs c.first_bad.result) c.deref.ensures.value (c.first_bad.ensures p R bo n))
