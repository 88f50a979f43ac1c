use Rattle.std.proofs.Common.{◌↔◌, IsTrue, List, Contains, subst}
use Rattle.jn_base.specs.declared.tree.Name.{Name}
use Rattle.jn_reach.proofs.Searches.{iff_false}
use Rattle.jn_names.proofs.Numbered.{none_known, field_known}
use Rattle.jn_names.proofs.bound.Bound.has_field.Goals as goal

pub returns-in-None : goal.returns-in-None
returns-in-None c = λ p f. iff_false
    (λ h. none_known p c.args.t.now c.args.self.now f c.in-None.ensures.none
    (field_known p c.args.self.now c.args.name h))

pub returns-in-Some : goal.returns-in-Some
returns-in-Some c = λ p f.
    let k = (c.row.ensures p c.args.self.now f.table c.in-Some.ensures.some).fields.exact c.args.name in
    let h : IsTrue c.has_name.result ↔ Contains c.row.result.now.fields.items c.args.name =
    subst (λ (ns : List Name). IsTrue c.has_name.result ↔ Contains ns c.args.name) c.deref.ensures.value
    c.has_name.ensures.among in
    (λ x. k.0 (h.0 x), λ x. h.1 (k.1 x))
