use Rattle.std.proofs.Common.{List, subst, Ok, Err}
use Rattle.jn_base.specs.declared.names.Var.{Var}
use Rattle.jn_intern.specs.declared.pool.TyId.{TyId}
use Rattle.jn_intern.specs.Pools.{scope_in, shown}
use Rattle.jn_expr.specs.Envs.{here_at}
use Rattle.jn_expr.specs.Steps.{LeadsTold}
use Rattle.jn_expr.specs.Values.{typed_in}
use Rattle.jn_expr.proofs.Scopes.{stays_more, vars_stay}
use Rattle.jn_check.specs.Storing.{stored_in}
use Rattle.jn_check.proofs.SetLaws.{go_set, left_set, receiver_fault, field_fault, value_fault, value_leads, leads_in, below_in}
use Rattle.jn_expr.proofs.Scopes.{grows_more}
use Rattle.jn_expr.proofs.Typeds.{stays_there}
use Rattle.jn_check.proofs.sets.stored.Goals as goal

pub returns-in-Err-clause-told : goal.returns-in-Err-clause-told
returns-in-Err-clause-told c = λ t n.
    receiver_fault c.args.p.now c.args.class.now c.args.m.now t c.args.env.now.vars.list (scope_in c.args.env.now.pool c.args.scope.now) n c.args.of.now c.args.f.now c.args.e.now c.args.env.now.marks
    (typed_in c.value_of.new.env.pool c.value_of.new.scope) c.value_of.new.env.marks c.value_of.new.env.marks c.in-Err.fault c.in-Err.ensures.told

pub returns-in-Err-stored_in-clause-told : goal.returns-in-Err-stored_in-clause-told
returns-in-Err-stored_in-clause-told c = λ t n.
    let vs = c.args.env.now.vars.list in
    let s = scope_in c.args.env.now.pool c.args.scope.now in
    let r = typed_in c.value_of.new.env.pool c.value_of.new.scope c.in-Ok.v in
    let go = go_set c.args.p.now c.args.class.now c.args.m.now t vs s n c.args.of.now c.args.f.now c.args.e.now c.args.env.now.marks c.in-Ok.v.path in
    field_fault c.args.p.now c.args.class.now c.args.m.now t vs s n c.args.of.now c.args.f.now c.args.e.now c.args.env.now.marks r c.value_of.new.env.marks c.in-Ok.ensures.told
    (λ (id : TyId). go (scope_in c.stored_in.new.env.pool c.stored_in.new.scope) (shown c.stored_in.new.env.pool id)) c.stored_in.new.env.marks c.stored_in.new.env.marks c.in-Err-stored_in.fault
    (subst (λ (ws : List Var). LeadsTold c.args.p.now (stored_in (here_at c.args.class.now c.args.m.now ws) c.args.of.now.at c.args.f.now r go)
    (λ (id : TyId). go (scope_in c.stored_in.new.env.pool c.stored_in.new.scope) (shown c.stored_in.new.env.pool id)) c.value_of.new.env.marks c.stored_in.new.env.marks (Err c.in-Err-stored_in.fault))
    (vars_stay c.value_of.ensures.stays) (c.in-Err-stored_in.ensures.told go))

pub returns-in-Err-stored_in-clause-stays : goal.returns-in-Err-stored_in-clause-stays
returns-in-Err-stored_in-clause-stays c = stays_more c.value_of.ensures.stays c.stored_in.ensures.stays

pub returns-in-Err-check_below-clause-told : goal.returns-in-Err-check_below-clause-told
returns-in-Err-check_below-clause-told c = λ t n.
    let vs = c.args.env.now.vars.list in
    let s = scope_in c.args.env.now.pool c.args.scope.now in
    let r = typed_in c.value_of.new.env.pool c.value_of.new.scope c.in-Ok.v in
    let go = go_set c.args.p.now c.args.class.now c.args.m.now t vs s n c.args.of.now c.args.f.now c.args.e.now c.args.env.now.marks c.in-Ok.v.path in
    let left = left_set c.args.p.now c.args.class.now c.args.m.now t vs s n c.args.of.now c.args.f.now c.args.e.now c.args.env.now.marks c.in-Ok.v.path in
    let d = scope_in c.stored_in.new.env.pool c.stored_in.new.scope in
    let u = shown c.stored_in.new.env.pool c.in-Ok-stored_in.id in
    value_fault c.args.p.now c.args.class.now c.args.m.now t vs s n c.args.of.now c.args.f.now c.args.e.now c.args.env.now.marks r c.value_of.new.env.marks c.in-Ok.ensures.told d u c.stored_in.new.env.marks
    (leads_in c.args.p.now c.args.class.now c.args.m.now c.args.of.now.at c.args.f.now r go (go d u) c.value_of.new.env.marks c.stored_in.new.env.marks (vars_stay c.value_of.ensures.stays) (c.in-Ok-stored_in.ensures.told go))
    c.check_below.new.env.marks c.check_below.new.env.marks c.in-Err-check_below.fault
    (below_in c.args.p.now c.args.class.now c.args.m.now t s n c.args.e.now d u left c.stored_in.new.env.marks c.check_below.new.env.marks (Err c.in-Err-check_below.fault)
    (vars_stay (stays_more c.value_of.ensures.stays c.stored_in.ensures.stays)) (c.in-Err-check_below.ensures.told t s n left))

pub returns-in-Err-check_below-clause-stays : goal.returns-in-Err-check_below-clause-stays
returns-in-Err-check_below-clause-stays c = stays_more (stays_more c.value_of.ensures.stays c.stored_in.ensures.stays) c.check_below.ensures.stays

pub returns-in-Ok-check_below-clause-told : goal.returns-in-Ok-check_below-clause-told
returns-in-Ok-check_below-clause-told c = λ t n.
    let vs = c.args.env.now.vars.list in
    let s = scope_in c.args.env.now.pool c.args.scope.now in
    let r = typed_in c.value_of.new.env.pool c.value_of.new.scope c.in-Ok.v in
    let go = go_set c.args.p.now c.args.class.now c.args.m.now t vs s n c.args.of.now c.args.f.now c.args.e.now c.args.env.now.marks c.in-Ok.v.path in
    let left = left_set c.args.p.now c.args.class.now c.args.m.now t vs s n c.args.of.now c.args.f.now c.args.e.now c.args.env.now.marks c.in-Ok.v.path in
    let d = scope_in c.stored_in.new.env.pool c.stored_in.new.scope in
    let u = shown c.stored_in.new.env.pool c.in-Ok-stored_in.id in
    value_leads c.args.p.now c.args.class.now c.args.m.now t vs s n c.args.of.now c.args.f.now c.args.e.now c.args.env.now.marks r c.value_of.new.env.marks c.in-Ok.ensures.told d u c.stored_in.new.env.marks
    (leads_in c.args.p.now c.args.class.now c.args.m.now c.args.of.now.at c.args.f.now r go (go d u) c.value_of.new.env.marks c.stored_in.new.env.marks (vars_stay c.value_of.ensures.stays) (c.in-Ok-stored_in.ensures.told go))
    c.check_below.new.env.marks
    (below_in c.args.p.now c.args.class.now c.args.m.now t s n c.args.e.now d u left c.stored_in.new.env.marks c.check_below.new.env.marks (Ok tt)
    (vars_stay (stays_more c.value_of.ensures.stays c.stored_in.ensures.stays)) (c.in-Ok-check_below.ensures.told t s n left))

pub returns-in-Ok-check_below-clause-stays : goal.returns-in-Ok-check_below-clause-stays
returns-in-Ok-check_below-clause-stays c = stays_more (stays_more c.value_of.ensures.stays c.stored_in.ensures.stays) c.check_below.ensures.stays

pub check_below-requires-clause-there : goal.check_below-requires-clause-there
check_below-requires-clause-there c =
    stays_there c.args.p.now c.args.class.now c.args.m.now c.requires.there (stays_more c.value_of.ensures.stays c.stored_in.ensures.stays) c.requires.scope
    (grows_more c.in-Ok.ensures.value.grows c.in-Ok-stored_in.ensures.slot.grows) c.in-Ok-stored_in.ensures.slot.scope
