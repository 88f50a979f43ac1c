use Rattle.std.proofs.Common.{sym, ap, ◌∙◌, refl}
use Rattle.jn_intern.specs.Pools.{shown}
use Rattle.jn_rules.specs.Plans.{wants}
use Rattle.jn_rules.specs.Exprs.{is_bool, mismatch}
use Rattle.jn_rules.specs.Stmts.{here, condition}
use Rattle.jn_expr.proofs.Leading.{leads_of_fault}
use Rattle.jn_check.specs.States.{in_at, before_at}
use Rattle.jn_check.proofs.Standing.{is_scope}
use Rattle.jn_check.proofs.SimpleLaws.{test_held, test_failed}
use Rattle.jn_check.proofs.Standing.{there_before}
use Rattle.jn_check.proofs.simple.check_condition.Goals as goal

pub type_alone-requires-clause-scope : goal.type_alone-requires-clause-scope
type_alone-requires-clause-scope c = is_scope c.args.p.now c.args.class.now c.args.m.now.name.name c.args.env.now.pool c.args.env.now.vars.list c.args.x.now c.requires.before

pub returns-in-Err-clause-told : goal.returns-in-Err-clause-told
returns-in-Err-clause-told c = λ t go.
    leads_of_fault c.args.p.now (condition (in_at c.args.class.now c.args.m.now t) (before_at c.args.env.now c.args.x.now) c.args.e.now go) c.args.env.now.marks {C = Unit {0}}
    (λ id. wants (is_bool (shown c.type_alone.new.env.pool id)) (mismatch (here (in_at c.args.class.now c.args.m.now t) (before_at c.args.env.now c.args.x.now)) c.args.e.now.at) go) (λ u. go)
    c.type_alone.new.env.marks c.type_alone.new.env.marks c.in-Err.fault
    (c.in-Err.ensures.told (λ y. wants (is_bool y) (mismatch (here (in_at c.args.class.now c.args.m.now t) (before_at c.args.env.now c.args.x.now)) c.args.e.now.at) go))

pub returns-then-not-is_bool-clause-told : goal.returns-then-not-is_bool-clause-told
returns-then-not-is_bool-clause-told c = λ t go.
    let X = before_at c.args.env.now c.args.x.now in
    test_failed c.args.p.now (in_at c.args.class.now c.args.m.now t) X c.args.e.now c.args.env.now.marks {B = Unit {0}} (λ u. go) go (is_bool (shown c.type_alone.new.env.pool c.in-Ok.id))
    (condition (in_at c.args.class.now c.args.m.now t) X c.args.e.now go) c.type_alone.new.env.marks c.type_alone.new.env.marks
    (c.in-Ok.ensures.told (λ y. wants (is_bool y) (mismatch (here (in_at c.args.class.now c.args.m.now t) X) c.args.e.now.at) go))
    (sym (ap is_bool c.show.ensures) ∙ (sym c.is_bool.ensures ∙ c.if-not-is_bool.true)) c.refused.result c.refused.ensures

pub returns-else-not-is_bool-clause-told : goal.returns-else-not-is_bool-clause-told
returns-else-not-is_bool-clause-told c = λ t go.
    let X = before_at c.args.env.now c.args.x.now in
    test_held c.args.p.now (in_at c.args.class.now c.args.m.now t) X c.args.e.now c.args.env.now.marks go (is_bool (shown c.type_alone.new.env.pool c.in-Ok.id)) (shown c.type_alone.new.env.pool c.in-Ok.id)
    (condition (in_at c.args.class.now c.args.m.now t) X c.args.e.now go) c.type_alone.new.env.marks
    (c.in-Ok.ensures.told (λ y. wants (is_bool y) (mismatch (here (in_at c.args.class.now c.args.m.now t) X) c.args.e.now.at) go))
    (sym (ap is_bool c.show.ensures) ∙ (sym c.is_bool.ensures ∙ c.if-not-is_bool.false))

pub returns-else-not-is_bool-clause-kept : goal.returns-else-not-is_bool-clause-kept
returns-else-not-is_bool-clause-kept c = record { declared = refl; scope = c.in-Ok.ensures.kept; next = refl }

pub type_alone-requires-clause-there : goal.type_alone-requires-clause-there
type_alone-requires-clause-there c = there_before c.args.p.now c.args.class.now c.args.m.now.name.name c.args.env.now.pool c.args.env.now.vars.list c.args.x.now c.requires.before
