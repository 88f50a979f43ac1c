use Rattle.std.proofs.Common.{Ok, refl}
use Rattle.jn_intern.specs.declared.pool.TyId.{TyId}
use Rattle.jn_intern.specs.Pools.{scope_in}
use Rattle.jn_rules.specs.Plans.{then_do, done}
use Rattle.jn_rules.specs.Stmts.{typed}
use Rattle.jn_check.specs.States.{in_at, before_at}
use Rattle.jn_check.proofs.Standing.{is_scope, stays_but}
use Rattle.jn_check.proofs.Telling.{told_fault}
use Rattle.jn_check.proofs.KeptLaws.{kept_after, kept_told}
use Rattle.jn_check.proofs.Standing.{there_before}
use Rattle.jn_check.proofs.simple.check_call.Goals as goal

pub type_alone-requires-clause-scope : goal.type_alone-requires-clause-scope
type_alone-requires-clause-scope c = is_scope c.args.p.now c.args.class.now c.args.m.now.name.name c.args.env.now.pool c.args.env.now.vars.list c.args.x.now c.requires.before

pub returns-in-Err-clause-told : goal.returns-in-Err-clause-told
returns-in-Err-clause-told c = λ t.
    let X = before_at c.args.env.now c.args.x.now in
    told_fault {B = TyId} {C = Unit {0}} c.args.p.now (then_do (typed (in_at c.args.class.now c.args.m.now t) X c.args.e.now (scope_in c.args.env.now.pool c.args.x.now.scope)) (λ y. done X)) (λ (id : TyId). done X) (λ (u : Unit {0}). X)
    c.args.env.now.marks c.type_alone.new.env.marks c.type_alone.new.env.marks c.in-Err.fault (c.in-Err.ensures.told (λ y. done X))

pub returns-in-Err-clause-stays : goal.returns-in-Err-clause-stays
returns-in-Err-clause-stays c = stays_but c.type_alone.ensures.stays

pub returns-in-Ok-clause-told : goal.returns-in-Ok-clause-told
returns-in-Ok-clause-told c = λ t.
    let X = before_at c.args.env.now c.args.x.now in
    kept_told c.args.p.now c.args.class.now c.args.m.now.name.name c.args.env.now c.args.x.now c.type_alone.new.env (record c.args.x.now { scope = c.type_alone.new.scope }) c.requires.before
    c.type_alone.ensures.stays (Ok tt) refl refl c.in-Ok.ensures.kept
    (then_do (typed (in_at c.args.class.now c.args.m.now t) X c.args.e.now (scope_in c.args.env.now.pool c.args.x.now.scope)) (λ y. done X)) c.args.env.now.marks c.type_alone.new.env.marks
    (c.in-Ok.ensures.told (λ y. done X))

pub returns-in-Ok-clause-after : goal.returns-in-Ok-clause-after
returns-in-Ok-clause-after c =
    kept_after c.args.p.now c.args.class.now c.args.m.now.name.name c.args.env.now c.args.x.now c.type_alone.new.env (record c.args.x.now { scope = c.type_alone.new.scope }) c.requires.before
    c.type_alone.ensures.stays (Ok tt) refl refl c.in-Ok.ensures.kept

pub returns-in-Ok-clause-stays : goal.returns-in-Ok-clause-stays
returns-in-Ok-clause-stays c = stays_but c.type_alone.ensures.stays

pub type_alone-requires-clause-there : goal.type_alone-requires-clause-there
type_alone-requires-clause-there c = there_before c.args.p.now c.args.class.now c.args.m.now.name.name c.args.env.now.pool c.args.env.now.vars.list c.args.x.now c.requires.before
