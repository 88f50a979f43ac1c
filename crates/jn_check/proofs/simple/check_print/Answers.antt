use Rattle.std.proofs.Common.{Ok, refl, sym, ap, ◌∙◌, ◌||◌, Bool}
use Rattle.jn_base.specs.declared.types.Ty.{Ty}
use Rattle.jn_intern.specs.declared.pool.TyId.{TyId}
use Rattle.jn_intern.specs.Pools.{shown}
use Rattle.jn_rules.specs.Plans.{wants, done}
use Rattle.jn_rules.specs.Exprs.{is_int, is_bool, mismatch}
use Rattle.jn_rules.specs.Stmts.{here, print_typed}
use Rattle.jn_check.specs.States.{in_at, before_at}
use Rattle.jn_check.proofs.Standing.{is_scope, stays_but}
use Rattle.jn_check.proofs.Telling.{told_fault}
use Rattle.jn_check.proofs.SimpleLaws.{test_held, test_failed}
use Rattle.jn_check.proofs.KeptLaws.{kept_after, kept_told}
use Rattle.jn_check.proofs.Standing.{there_before}
use Rattle.jn_check.proofs.simple.check_print.Goals as goal

pub type_alone-requires-clause-scope : goal.type_alone-requires-clause-scope
type_alone-requires-clause-scope c = is_scope c.args.p.now c.args.class.now c.args.m.now.name.name c.args.env.now.pool c.args.env.now.vars.list c.args.x.now c.requires.before

pub returns-in-Err-clause-told : goal.returns-in-Err-clause-told
returns-in-Err-clause-told c = λ t.
    let X = before_at c.args.env.now c.args.x.now in
    told_fault {B = TyId} {C = Unit {0}} c.args.p.now (print_typed (in_at c.args.class.now c.args.m.now t) X c.args.e.now)
    (λ (id : TyId). wants (is_int (shown c.type_alone.new.env.pool id) || is_bool (shown c.type_alone.new.env.pool id)) (mismatch (here (in_at c.args.class.now c.args.m.now t) X) c.args.e.now.at) (done X)) (λ (u : Unit {0}). X)
    c.args.env.now.marks c.type_alone.new.env.marks c.type_alone.new.env.marks c.in-Err.fault
    (c.in-Err.ensures.told (λ y. wants (is_int y || is_bool y) (mismatch (here (in_at c.args.class.now c.args.m.now t) X) c.args.e.now.at) (done X)))

pub returns-in-Err-clause-stays : goal.returns-in-Err-clause-stays
returns-in-Err-clause-stays c = stays_but c.type_alone.ensures.stays

pub returns-then-not-is_printed-clause-told : goal.returns-then-not-is_printed-clause-told
returns-then-not-is_printed-clause-told c = λ t.
    let X = before_at c.args.env.now c.args.x.now in
    let printed : Ty → Bool = λ y. is_int y || is_bool y in
    told_fault {C = Unit {0}} c.args.p.now (print_typed (in_at c.args.class.now c.args.m.now t) X c.args.e.now) (λ (u : Unit {0}). done X) (λ (u : Unit {0}). X) c.args.env.now.marks c.type_alone.new.env.marks c.type_alone.new.env.marks c.refused.result
    (test_failed c.args.p.now (in_at c.args.class.now c.args.m.now t) X c.args.e.now c.args.env.now.marks (λ (u : Unit {0}). done X) (done X) (printed (shown c.type_alone.new.env.pool c.in-Ok.id))
    (print_typed (in_at c.args.class.now c.args.m.now t) X c.args.e.now) c.type_alone.new.env.marks c.type_alone.new.env.marks
    (c.in-Ok.ensures.told (λ y. wants (is_int y || is_bool y) (mismatch (here (in_at c.args.class.now c.args.m.now t) X) c.args.e.now.at) (done X)))
    (sym (ap printed c.show.ensures) ∙ (sym c.is_printed.ensures ∙ c.if-not-is_printed.true)) c.refused.result c.refused.ensures)

pub returns-else-not-is_printed-clause-told : goal.returns-else-not-is_printed-clause-told
returns-else-not-is_printed-clause-told c = λ t.
    let X = before_at c.args.env.now c.args.x.now in
    let printed : Ty → Bool = λ y. is_int y || is_bool y in
    kept_told c.args.p.now c.args.class.now c.args.m.now.name.name c.args.env.now c.args.x.now c.type_alone.new.env (record c.args.x.now { scope = c.type_alone.new.scope }) c.requires.before
    c.type_alone.ensures.stays (Ok tt) refl refl c.in-Ok.ensures.kept (print_typed (in_at c.args.class.now c.args.m.now t) X c.args.e.now) c.args.env.now.marks c.type_alone.new.env.marks
    (test_held c.args.p.now (in_at c.args.class.now c.args.m.now t) X c.args.e.now c.args.env.now.marks (done X) (printed (shown c.type_alone.new.env.pool c.in-Ok.id))
    (shown c.type_alone.new.env.pool c.in-Ok.id) (print_typed (in_at c.args.class.now c.args.m.now t) X c.args.e.now) c.type_alone.new.env.marks
    (c.in-Ok.ensures.told (λ y. wants (is_int y || is_bool y) (mismatch (here (in_at c.args.class.now c.args.m.now t) X) c.args.e.now.at) (done X)))
    (sym (ap printed c.show.ensures) ∙ (sym c.is_printed.ensures ∙ c.if-not-is_printed.false)))

pub returns-else-not-is_printed-clause-after : goal.returns-else-not-is_printed-clause-after
returns-else-not-is_printed-clause-after c =
    kept_after c.args.p.now c.args.class.now c.args.m.now.name.name c.args.env.now c.args.x.now c.type_alone.new.env (record c.args.x.now { scope = c.type_alone.new.scope }) c.requires.before
    c.type_alone.ensures.stays (Ok tt) refl refl c.in-Ok.ensures.kept

pub returns-else-not-is_printed-clause-stays : goal.returns-else-not-is_printed-clause-stays
returns-else-not-is_printed-clause-stays c = stays_but c.type_alone.ensures.stays

pub type_alone-requires-clause-there : goal.type_alone-requires-clause-there
type_alone-requires-clause-there c = there_before c.args.p.now c.args.class.now c.args.m.now.name.name c.args.env.now.pool c.args.env.now.vars.list c.args.x.now c.requires.before
