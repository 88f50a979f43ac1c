use Rattle.std.proofs.Common.{◌↔◌, IsTrue, List, Contains, subst}
use Rattle.jn_base.specs.declared.tree.Name.{Name}
use Rattle.jn_lower.proofs.members.has_method.Goals as goal

pub returns : goal.returns
returns c = λ p R f at.
    let k = (c.row.ensures p R f.table at).methods.exact c.args.m in
    let h : IsTrue c.has_name.result ↔ Contains c.row.result.now.methods.items c.args.m =
    subst (λ (ns : List Name). IsTrue c.has_name.result ↔ Contains ns c.args.m) c.deref.ensures.value c.has_name.ensures.among in
    (λ x. k.0 (h.0 x), λ x. h.1 (k.1 x))
