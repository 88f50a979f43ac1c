use Rattle.std.proofs.Common.{refl}
use Rattle.jn_intern.specs.Pools.{scope_in, shown}
use Rattle.jn_sem.specs.Does.{var}
use Rattle.jn_rules.specs.Plans.{done}
use Rattle.jn_rules.specs.Stmts.{with_local}
use Rattle.jn_expr.proofs.Scopes.{vars_stay}
use Rattle.jn_check.specs.States.{before_at}
use Rattle.jn_check.proofs.Standing.{is_scope, stays_but, but_more}
use Rattle.jn_check.proofs.LocalLaws.{with_fault, with_told, with_after}
use Rattle.jn_check.proofs.Standing.{there_before}
use Rattle.jn_rule_laws.proofs.KnownTypes.{for_known}
use Rattle.jn_check.proofs.locals.local_with.Goals as goal

pub check_below-requires-clause-scope : goal.check_below-requires-clause-scope
check_below-requires-clause-scope c = is_scope c.args.p.now c.args.class.now c.args.m.now.name.name c.args.env.now.pool c.args.env.now.vars.list c.args.x.now c.requires.before

pub returns-in-Err-clause-told : goal.returns-in-Err-clause-told
returns-in-Err-clause-told c = λ t.
    let X = before_at c.args.env.now c.args.x.now in
    with_fault c.args.p.now c.args.class.now c.args.m.now t c.args.name.now c.args.e.now c.args.fixed c.args.env.now c.args.x.now c.requires.before c.args.ty c.requires.number
    c.note_var.new.marks c.in_ok-note_var.ensures c.check_below.new.env (record c.args.x.now { scope = c.check_below.new.scope }) c.check_below.new.env.marks c.check_below.new.env.marks c.in-Err.fault
    (c.in-Err.ensures.told t (scope_in c.args.env.now.pool c.args.x.now.scope) c.args.x.now.next (done (with_local X (var c.args.name.now.name c.args.x.now.next c.args.fixed (shown c.args.env.now.pool c.args.ty)))))

pub returns-in_ok-add_local-in-Ok-clause-told : goal.returns-in_ok-add_local-in-Ok-clause-told
returns-in_ok-add_local-in-Ok-clause-told c = λ t.
    let X = before_at c.args.env.now c.args.x.now in
    with_told c.args.p.now c.args.class.now c.args.m.now t c.args.name.now c.args.e.now c.args.fixed c.args.env.now c.args.x.now c.requires.before c.args.ty c.requires.number
    c.note_var.new.marks c.in_ok-note_var.ensures c.check_below.new.env (record c.args.x.now { scope = c.check_below.new.scope }) c.check_below.ensures.stays.pool
    (vars_stay c.check_below.ensures.stays) (record { declared = refl; scope = c.in-Ok.ensures.kept; next = refl }) c.add_local.new.env c.add_local.new.x c.in_ok-add_local-in-Ok.ensures.added
    (c.in-Ok.ensures.told t (scope_in c.args.env.now.pool c.args.x.now.scope) c.args.x.now.next (done (with_local X (var c.args.name.now.name c.args.x.now.next c.args.fixed (shown c.args.env.now.pool c.args.ty)))))

pub returns-in_ok-add_local-in-Ok-clause-after : goal.returns-in_ok-add_local-in-Ok-clause-after
returns-in_ok-add_local-in-Ok-clause-after c =
    with_after c.args.p.now c.args.class.now c.args.m.now (shown c.args.env.now.pool c.args.ty) c.args.name.now c.args.e.now c.args.fixed c.args.env.now c.args.x.now c.requires.before c.args.ty c.requires.number
    c.note_var.new.marks c.in_ok-note_var.ensures c.check_below.new.env (record c.args.x.now { scope = c.check_below.new.scope }) c.check_below.ensures.stays.pool
    (vars_stay c.check_below.ensures.stays) (record { declared = refl; scope = c.in-Ok.ensures.kept; next = refl }) c.add_local.new.env c.add_local.new.x c.in_ok-add_local-in-Ok.ensures.added
    c.requires.parts.shallow c.requires.there

pub returns-in_err-add_local-in-Ok-clause-stays : goal.returns-in_err-add_local-in-Ok-clause-stays
returns-in_err-add_local-in-Ok-clause-stays c = but_more (stays_but (record { same = c.check_below.ensures.stays.same; pool = c.check_below.ensures.stays.pool })) c.add_local.ensures.stays

pub check_below-requires-clause-there : goal.check_below-requires-clause-there
check_below-requires-clause-there c = there_before c.args.p.now c.args.class.now c.args.m.now.name.name c.args.env.now.pool c.args.env.now.vars.list c.args.x.now c.requires.before

pub check_below-requires-clause-fits : goal.check_below-requires-clause-fits
check_below-requires-clause-fits c =
    (for_known (there_before c.args.p.now c.args.class.now c.args.m.now.name.name c.args.env.now.pool c.args.env.now.vars.list c.args.x.now c.requires.before).scope (record { fits = c.requires.there.fits; named = c.requires.there.named })).fits
