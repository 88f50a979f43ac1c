use Rattle.std.proofs.Common.{◌≡◌, IfOk, length, subst}
use Rattle.jn_base.specs.Paths.{Path}
use Rattle.jn_base.specs.Scopes.{Scope as TypeScope, bound_of}
use Rattle.jn_intern.specs.Pools.{scope_in}
use Rattle.jn_intern.proofs.Pools.{scope_kept}
use Rattle.jn_expr.proofs.Scopes.{scope_stays, stays_more, parts_stay, vars_stay}
use Rattle.jn_expr.proofs.WalkSupers.{super_term_fault, super_begun}
use Rattle.jn_expr.proofs.Typeds.{there_kept}
use Rattle.jn_expr.proofs.super_calls.begin_super.Goals as goal

pub super_owner-requires : goal.super_owner-requires
super_owner-requires c = record {
  scope = scope_stays c.requires.scope c.in-Ok.ensures.stays.pool;
  this = there_kept c.requires.scope c.in-Ok.ensures.stays.pool c.requires.this;
}

pub returns-in-Err-clause-told : goal.returns-in-Err-clause-told
returns-in-Err-clause-told c = λ es.
    super_term_fault c.args.p.now c.args.class.now c.args.m.now c.args.t.now c.args.name.now es c.args.env.now.vars.list (scope_in c.args.env.now.pool c.args.scope.now)
    c.args.env.now.marks c.begin_term.new.env.marks c.begin_term.new.env.marks c.in-Err.fault c.in-Err.ensures.told

pub returns-in-Ok-clause-told : goal.returns-in-Ok-clause-told
returns-in-Ok-clause-told c = λ es.
    super_begun c.args.p.now c.args.class.now c.args.m.now c.args.t.now c.args.name.now es c.args.env.now.vars.list (scope_in c.args.env.now.pool c.args.scope.now)
    c.args.env.now.marks c.begin_term.new.env.marks c.super_owner.new.env.marks c.in-Ok.atom c.begin_term.new.env.vars.list (scope_in c.begin_term.new.env.pool c.args.scope.now)
    (vars_stay c.in-Ok.ensures.stays) (scope_kept c.args.scope.now c.requires.scope.known c.in-Ok.ensures.stays.pool) c.in-Ok.ensures.told c.super_owner.result
    (c.super_owner.ensures.told c.args.p.now es (parts_stay c.requires.parts c.in-Ok.ensures.stays))

pub returns-in-Ok-clause-stays : goal.returns-in-Ok-clause-stays
returns-in-Ok-clause-stays c = stays_more c.in-Ok.ensures.stays c.super_owner.ensures.stays

pub returns-in-Ok-clause-deep : goal.returns-in-Ok-clause-deep
returns-in-Ok-clause-deep c =
    subst (λ (q : TypeScope). IfOk c.super_owner.result (λ (Q : Path). length (bound_of q 0) ≡ length Q))
    (scope_kept c.args.scope.now c.requires.scope.known c.in-Ok.ensures.stays.pool)
    (c.super_owner.ensures.deep c.args.p.now (parts_stay c.requires.parts c.in-Ok.ensures.stays))
