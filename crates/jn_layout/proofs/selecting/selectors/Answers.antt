use Rattle.std.proofs.Common.{sym, subst}
use Rattle.jn_reach.specs.Each.{Each}
use Rattle.jn_names.specs.FieldTypes.{declared_fields}
use Rattle.jn_agree.specs.Rows.{bodies_of}
use Rattle.jn_layout.specs.Shapes.{IsBodyAt, IsFieldAt}
use Rattle.jn_layout.proofs.SelectorLaws.{selectors_are, selectors_only}
use Rattle.jn_layout.proofs.selecting.selectors.Goals as goal

pub returns-clause-are : goal.returns-clause-are
returns-clause-are c = λ asked.
    selectors_are c.args.p.now c.args.t.now c.args.s.now asked c.deref.result.now c.deref-2.result.now c.in_ok-methods.methods c.in_ok-fields.fields
    (subst (Each (IsBodyAt c.args.t.now) (bodies_of c.args.p.now)) (sym c.deref.ensures.value) c.in_ok-declared.ensures.bodies)
    (subst (Each (IsFieldAt c.args.t.now) (declared_fields c.args.p.now)) (sym c.deref-2.ensures.value) c.in_ok-declared.ensures.fields)
    c.in_ok-methods.ensures c.in_ok-fields.ensures

pub returns-clause-only : goal.returns-clause-only
returns-clause-only c = λ asked.
    selectors_only c.args.p.now c.args.t.now c.args.s.now asked c.deref.result.now c.deref-2.result.now c.in_ok-methods.methods c.in_ok-fields.fields
    (subst (Each (IsBodyAt c.args.t.now) (bodies_of c.args.p.now)) (sym c.deref.ensures.value) c.in_ok-declared.ensures.bodies)
    (subst (Each (IsFieldAt c.args.t.now) (declared_fields c.args.p.now)) (sym c.deref-2.ensures.value) c.in_ok-declared.ensures.fields)
    c.in_ok-methods.ensures c.in_ok-fields.ensures
