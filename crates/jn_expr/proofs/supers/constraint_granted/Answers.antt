use Rattle.std.proofs.Common.{◌∙◌, sym, subst, true, false, Ok, Err}
use Rattle.jn_base.specs.declared.names.Resolved.{Resolved}
use Rattle.jn_intern.specs.Pools.{scope_in, shown}
use Rattle.jn_intern.proofs.Pools.{keeps_more, scope_kept}
use Rattle.jn_sem.specs.NormalFunction.{normal_type}
use Rattle.jn_rules.specs.Plans.{target_type}
use Rattle.jn_expr.specs.Envs.{here_at}
use Rattle.jn_expr.specs.Steps.{Leads}
use Rattle.jn_expr.specs.Calling.{body_of}
use Rattle.jn_expr.specs.Supering.{constraint_asked}
use Rattle.jn_expr.proofs.Scopes.{scope_stays, stays_more}
use Rattle.jn_expr.proofs.Granting.{formed, at_bool}
use Rattle.jn_expr.proofs.SuperSteps.{constraint_fault, grants_fault, not_granted, is_granted, stays_moved, grants_at}
use Rattle.jn_expr.proofs.supers.constraint_granted.Goals as goal

pub returns-in-Err-clause-told : goal.returns-in-Err-clause-told
returns-in-Err-clause-told c = λ go.
    constraint_fault c.args.p.now (here_at c.args.class.now c.args.m.now c.args.env.now.vars.list) (body_of c.args.owner.now c.args.method.now) c.args.name.now (scope_in c.args.env.now.pool c.args.scope.now) c.args.constraint.now go c.args.env.now.marks
    c.in-Err.fault c.in-Err.ensures.told {B = Unit {0}} (λ u. go) c.args.env.now.marks

pub normal_of-requires-clause-scope : goal.normal_of-requires-clause-scope
normal_of-requires-clause-scope c = scope_stays c.requires.scope c.in_ok-id-in-Ok.ensures.keeps

pub returns-in_err-from-in-Ok-clause-stays : goal.returns-in_err-from-in-Ok-clause-stays
returns-in_err-from-in-Ok-clause-stays c =
    stays_moved c.args.env.now c.pledge_of.new.t c.normal_of.new.pool c.in-Ok.ensures.kept (keeps_more c.in_ok-id-in-Ok.ensures.keeps c.normal_of.ensures.keeps)

pub header_grants-requires-clause-scope : goal.header_grants-requires-clause-scope
header_grants-requires-clause-scope c = scope_stays c.requires.scope (keeps_more c.in_ok-id-in-Ok.ensures.keeps c.in_ok-from-in-Ok.ensures.keeps)

pub returns-in-Err-header_grants-clause-told : goal.returns-in-Err-header_grants-clause-told
returns-in-Err-header_grants-clause-told c = λ go.
    grants_fault c.args.p.now (here_at c.args.class.now c.args.m.now c.args.env.now.vars.list) (body_of c.args.owner.now c.args.method.now) c.args.name.now (scope_in c.args.env.now.pool c.args.scope.now) c.args.constraint.now go c.args.env.now.marks c.in-Ok.ensures.told.pledge c.in-Ok.ensures.told.resolved
    c.in-Err-header_grants.fault (grants_at c.args.p.now (here_at c.args.class.now c.args.m.now c.args.env.now.vars.list) (scope_in c.normal_of.new.pool c.args.scope.now) (scope_in c.args.env.now.pool c.args.scope.now) (shown c.normal_of.new.pool c.in_ok-from-in-Ok.from)
    (normal_type (scope_in c.args.env.now.pool c.args.scope.now) (target_type c.in-Ok.ensures.told.pledge.from)) c.in-Ok.ensures.told.pledge.to (Err c.in-Err-header_grants.fault)
    (scope_kept c.args.scope.now c.requires.scope.known (keeps_more c.in_ok-id-in-Ok.ensures.keeps c.in_ok-from-in-Ok.ensures.keeps))
    (formed c.args.env.now.pool c.intern.new.self c.normal_of.new.pool c.args.scope.now c.in_ok-id-in-Ok.id c.in_ok-from-in-Ok.from (target_type c.in-Ok.ensures.told.pledge.from)
    c.requires.scope c.in_ok-id-in-Ok.ensures.keeps (c.in_ok-id-in-Ok.ensures.shows.1 ∙ c.in-Ok.ensures.told.from) c.in_ok-from-in-Ok.ensures.is).shows
    (c.in-Err-header_grants.ensures.told c.in-Ok.ensures.told.pledge.to c.in-Ok.ensures.told.to))
    {B = Unit {0}} (λ u. go) c.header_grants.new.env.marks

pub returns-in-Err-header_grants-clause-stays : goal.returns-in-Err-header_grants-clause-stays
returns-in-Err-header_grants-clause-stays c = stays_more (stays_moved c.args.env.now c.pledge_of.new.t c.normal_of.new.pool c.in-Ok.ensures.kept (keeps_more c.in_ok-id-in-Ok.ensures.keeps c.in_ok-from-in-Ok.ensures.keeps)) c.header_grants.ensures.stays

pub returns-then-not-granted-clause-told : goal.returns-then-not-granted-clause-told
returns-then-not-granted-clause-told c = λ go.
    not_granted c.args.p.now (here_at c.args.class.now c.args.m.now c.args.env.now.vars.list) (body_of c.args.owner.now c.args.method.now) c.args.name.now (scope_in c.args.env.now.pool c.args.scope.now) c.args.constraint.now go c.args.env.now.marks c.in-Ok.ensures.told.pledge c.in-Ok.ensures.told.resolved
    (at_bool c.args.p.now _ c.in-Ok-header_grants.granted false c.if-not-granted.true (grants_at c.args.p.now (here_at c.args.class.now c.args.m.now c.args.env.now.vars.list) (scope_in c.normal_of.new.pool c.args.scope.now) (scope_in c.args.env.now.pool c.args.scope.now) (shown c.normal_of.new.pool c.in_ok-from-in-Ok.from)
    (normal_type (scope_in c.args.env.now.pool c.args.scope.now) (target_type c.in-Ok.ensures.told.pledge.from)) c.in-Ok.ensures.told.pledge.to (Ok c.in-Ok-header_grants.granted)
    (scope_kept c.args.scope.now c.requires.scope.known (keeps_more c.in_ok-id-in-Ok.ensures.keeps c.in_ok-from-in-Ok.ensures.keeps))
    (formed c.args.env.now.pool c.intern.new.self c.normal_of.new.pool c.args.scope.now c.in_ok-id-in-Ok.id c.in_ok-from-in-Ok.from (target_type c.in-Ok.ensures.told.pledge.from)
    c.requires.scope c.in_ok-id-in-Ok.ensures.keeps (c.in_ok-id-in-Ok.ensures.shows.1 ∙ c.in-Ok.ensures.told.from) c.in_ok-from-in-Ok.ensures.is).shows
    (c.in-Ok-header_grants.ensures.told c.in-Ok.ensures.told.pledge.to c.in-Ok.ensures.told.to)))
    c.refused.result c.refused.ensures {B = Unit {0}} (λ u. go) c.header_grants.new.env.marks

pub returns-then-not-granted-clause-stays : goal.returns-then-not-granted-clause-stays
returns-then-not-granted-clause-stays c = stays_more (stays_moved c.args.env.now c.pledge_of.new.t c.normal_of.new.pool c.in-Ok.ensures.kept (keeps_more c.in_ok-id-in-Ok.ensures.keeps c.in_ok-from-in-Ok.ensures.keeps)) c.header_grants.ensures.stays

pub returns-clause-told : goal.returns-clause-told
returns-clause-told c = λ go.
    subst (λ (r : Resolved). Leads c.args.p.now (constraint_asked (here_at c.args.class.now c.args.m.now c.args.env.now.vars.list) (body_of c.args.owner.now c.args.method.now) c.args.name.now (scope_in c.args.env.now.pool c.args.scope.now) c.args.constraint.now go) go c.args.env.now.marks r)
    (sym c.header_grants.ensures.marks)
    (is_granted c.args.p.now (here_at c.args.class.now c.args.m.now c.args.env.now.vars.list) (body_of c.args.owner.now c.args.method.now) c.args.name.now (scope_in c.args.env.now.pool c.args.scope.now) c.args.constraint.now go c.args.env.now.marks c.in-Ok.ensures.told.pledge c.in-Ok.ensures.told.resolved
    (at_bool c.args.p.now _ c.in-Ok-header_grants.granted true c.if-not-granted.false (grants_at c.args.p.now (here_at c.args.class.now c.args.m.now c.args.env.now.vars.list) (scope_in c.normal_of.new.pool c.args.scope.now) (scope_in c.args.env.now.pool c.args.scope.now) (shown c.normal_of.new.pool c.in_ok-from-in-Ok.from)
    (normal_type (scope_in c.args.env.now.pool c.args.scope.now) (target_type c.in-Ok.ensures.told.pledge.from)) c.in-Ok.ensures.told.pledge.to (Ok c.in-Ok-header_grants.granted)
    (scope_kept c.args.scope.now c.requires.scope.known (keeps_more c.in_ok-id-in-Ok.ensures.keeps c.in_ok-from-in-Ok.ensures.keeps))
    (formed c.args.env.now.pool c.intern.new.self c.normal_of.new.pool c.args.scope.now c.in_ok-id-in-Ok.id c.in_ok-from-in-Ok.from (target_type c.in-Ok.ensures.told.pledge.from)
    c.requires.scope c.in_ok-id-in-Ok.ensures.keeps (c.in_ok-id-in-Ok.ensures.shows.1 ∙ c.in-Ok.ensures.told.from) c.in_ok-from-in-Ok.ensures.is).shows
    (c.in-Ok-header_grants.ensures.told c.in-Ok.ensures.told.pledge.to c.in-Ok.ensures.told.to))))

pub returns-clause-stays : goal.returns-clause-stays
returns-clause-stays c = stays_more (stays_moved c.args.env.now c.pledge_of.new.t c.normal_of.new.pool c.in-Ok.ensures.kept (keeps_more c.in_ok-id-in-Ok.ensures.keeps c.in_ok-from-in-Ok.ensures.keeps)) c.header_grants.ensures.stays
