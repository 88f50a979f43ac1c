use Rattle.std.proofs.Common.{Some, Err}
use Rattle.jn_intern.specs.declared.pool.TyId.{TyId}
use Rattle.jn_rules.specs.Plans.{refuse, done, then_do}
use Rattle.jn_rules.specs.Exprs.{mismatch}
use Rattle.jn_rules.specs.Stmts.{here, typed, return_typed}
use Rattle.jn_check.specs.States.{in_at, before_at}
use Rattle.jn_check.proofs.Standing.{is_scope, stays_but}
use Rattle.jn_check.proofs.Telling.{told_fault, told_as, fault_refused}
use Rattle.jn_check.proofs.SimpleLaws.{return_vain}
use Rattle.jn_check.proofs.Standing.{there_before}
use Rattle.jn_check.proofs.simple.return_vainly.Goals as goal

pub type_alone-requires-clause-scope : goal.type_alone-requires-clause-scope
type_alone-requires-clause-scope c = is_scope c.args.p.now c.args.class.now c.args.m.now.name.name c.args.env.now.pool c.args.env.now.vars.list c.args.x.now c.requires.before

pub returns-in-Err-clause-told : goal.returns-in-Err-clause-told
returns-in-Err-clause-told c = λ t i.
    let X = before_at c.args.env.now c.args.x.now in
    told_as {B = Unit {0}} c.args.p.now (return_typed (in_at c.args.class.now c.args.m.now t) X (Some c.args.e.now) c.args.at)
    (then_do (typed (in_at c.args.class.now c.args.m.now t) X c.args.e.now X.scope) (λ y. refuse (mismatch (here (in_at c.args.class.now c.args.m.now t) X) c.args.at)))
    (λ (u : Unit {0}). X) c.args.env.now.marks c.type_alone.new.env.marks (Err c.in-Err.fault)
    (return_vain c.args.p.now (in_at c.args.class.now c.args.m.now t) X c.args.e.now c.args.env.now.marks c.args.at i)
    (told_fault {B = TyId} {C = Unit {0}} c.args.p.now
    (then_do (typed (in_at c.args.class.now c.args.m.now t) X c.args.e.now X.scope) (λ y. refuse (mismatch (here (in_at c.args.class.now c.args.m.now t) X) c.args.at)))
    (λ (id : TyId). refuse (mismatch (here (in_at c.args.class.now c.args.m.now t) X) c.args.at)) (λ (u : Unit {0}). X) c.args.env.now.marks c.type_alone.new.env.marks c.type_alone.new.env.marks c.in-Err.fault
    (c.in-Err.ensures.told (λ y. refuse (mismatch (here (in_at c.args.class.now c.args.m.now t) X) c.args.at))))

pub returns-in-Err-clause-stays : goal.returns-in-Err-clause-stays
returns-in-Err-clause-stays c = stays_but c.type_alone.ensures.stays

pub returns-in-Ok-clause-told : goal.returns-in-Ok-clause-told
returns-in-Ok-clause-told c = λ t i.
    let X = before_at c.args.env.now c.args.x.now in
    told_as {B = Unit {0}} c.args.p.now (return_typed (in_at c.args.class.now c.args.m.now t) X (Some c.args.e.now) c.args.at)
    (then_do (typed (in_at c.args.class.now c.args.m.now t) X c.args.e.now X.scope) (λ y. refuse (mismatch (here (in_at c.args.class.now c.args.m.now t) X) c.args.at)))
    (λ (u : Unit {0}). X) c.args.env.now.marks c.type_alone.new.env.marks (Err c.refused.result)
    (return_vain c.args.p.now (in_at c.args.class.now c.args.m.now t) X c.args.e.now c.args.env.now.marks c.args.at i)
    (told_fault {B = Unit {0}} {C = Unit {0}} c.args.p.now
    (then_do (typed (in_at c.args.class.now c.args.m.now t) X c.args.e.now X.scope) (λ y. refuse (mismatch (here (in_at c.args.class.now c.args.m.now t) X) c.args.at)))
    (λ (u : Unit {0}). done X) (λ (u : Unit {0}). X) c.args.env.now.marks c.type_alone.new.env.marks c.type_alone.new.env.marks c.refused.result
    (fault_refused {B = Unit {0}} {p = c.args.p.now} (λ (u : Unit {0}). done X) c.type_alone.new.env.marks (mismatch (here (in_at c.args.class.now c.args.m.now t) X) c.args.at)
    (c.in-Ok.ensures.told (λ y. refuse (mismatch (here (in_at c.args.class.now c.args.m.now t) X) c.args.at))) c.refused.result c.refused.ensures))

pub returns-in-Ok-clause-stays : goal.returns-in-Ok-clause-stays
returns-in-Ok-clause-stays c = stays_but c.type_alone.ensures.stays

pub type_alone-requires-clause-there : goal.type_alone-requires-clause-there
type_alone-requires-clause-there c = there_before c.args.p.now c.args.class.now c.args.m.now.name.name c.args.env.now.pool c.args.env.now.vars.list c.args.x.now c.requires.before
