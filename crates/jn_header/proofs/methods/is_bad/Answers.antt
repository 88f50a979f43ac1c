use Rattle.std.proofs.Common.{subst, sym, List}
use Rattle.jn_base.specs.Supers.{Sup}
use Rattle.jn_table.specs.declared.class.ClassId.{ClassId}
use Rattle.jn_table.specs.Rows.{AreClasses}
use Rattle.jn_header.proofs.MethodNames.{none_bad, many_bad, has_least, bad_told}
use Rattle.jn_header.proofs.methods.is_bad.Goals as goal

pub returns-in-None : goal.returns-in-None
returns-in-None c =
    λ p R bo n. none_bad p c.args.t.now.known.items R c.args.name.now (c.in-None.ensures p c.args.t.now R bo.members n)

pub returns-in-Many : goal.returns-in-Many
returns-in-Many c =
    λ p R bo n. many_bad p c.args.t.now.known.items R c.args.name.now c.in-Many.field-0 c.in-Many.field-1
    (c.in-Many.ensures p c.args.t.now R bo.members n)

pub returns-in-None-least_head : goal.returns-in-None-least_head
returns-in-None-least_head c = λ p R bo n bad.
    let l = c.in-One.ensures p c.args.t.now R bo.members n in
    has_least p R l.0 c.args.name.now l.2 (c.in-None-least_head.ensures p c.args.t.now R bo n)

pub returns-in-Some : goal.returns-in-Some
returns-in-Some c = λ p R bo n.
    let h = c.in-Some.ensures p c.args.t.now R bo n in
    bad_told p bo.declarations bo.members.filled.table.named R c.args.name.now h.0 h.1 c.differs.result
    (c.differs.ensures h.0 p c.args.t.now R bo n
    (subst (λ (ids : List ClassId). AreClasses p c.args.t.now.known.items (Sup p R) ids) (sym c.deref.ensures.value)
    (c.row.ensures p R bo.members.filled.table n).sups) h.2)
