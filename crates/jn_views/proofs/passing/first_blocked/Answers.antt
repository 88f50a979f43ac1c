use Rattle.jn_base.specs.declared.tree.Name.{Name}
use Rattle.jn_views.proofs.Passings.{pass_more, none_blocked, blocked}
use Rattle.jn_views.proofs.passing.first_blocked.Goals as goal

pub returns-then-not-passes-clause-some : goal.returns-then-not-passes-clause-some
returns-then-not-passes-clause-some c =
    let zero : Name = record { 0 = 0 } in
    blocked c.args.t.now c.args.s.now c.args.u c.args.w c.args.from c.args.to c.args.names.now c.row.result.now c.row.ensures c.deref-field-items.result.now
    c.deref-field-items.ensures.value c.loop-field.field-index zero c.loop-field-test.true c.passes.result c.if-not-passes.true c.passes.ensures c.loop-field.invariant

pub loop-field-preserved : goal.loop-field-preserved
loop-field-preserved c =
    let zero : Name = record { 0 = 0 } in
    pass_more c.args.t.now c.args.s.now c.args.u c.args.w c.args.from c.args.to c.args.names.now c.row.result.now c.row.ensures c.deref-field-items.result.now
    c.deref-field-items.ensures.value c.loop-field.field-index zero c.loop-field-test.true c.passes.result c.if-not-passes.false c.passes.ensures c.loop-field.invariant

pub returns-clause-none : goal.returns-clause-none
returns-clause-none c =
    none_blocked c.args.t.now c.args.s.now c.args.u c.args.w c.args.from c.args.to c.args.names.now c.row.result.now c.row.ensures c.deref-field-items.result.now
    c.deref-field-items.ensures.value c.loop-field.field-index c.loop-field-test.false c.loop-field.invariant
