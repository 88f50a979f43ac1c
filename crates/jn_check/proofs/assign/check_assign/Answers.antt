use Rattle.std.proofs.Common.{refl}
use Rattle.jn_intern.specs.Pools.{scope_in, shown}
use Rattle.jn_intern.proofs.Pools.{keeps_more, scope_kept}
use Rattle.jn_base.specs.Resolve.{var_named}
use Rattle.jn_rules.specs.Plans.{done}
use Rattle.jn_rules.specs.Stmts.{assign_typed}
use Rattle.jn_expr.proofs.Scopes.{scope_stays}
use Rattle.jn_check.specs.States.{in_at, before_at}
use Rattle.jn_check.proofs.Standing.{is_scope, stays_but}
use Rattle.jn_check.proofs.Telling.{below_as, leads_as}
use Rattle.jn_check.proofs.KeptLaws.{kept_after, kept_told}
use Rattle.jn_check.proofs.LocalLaws.{assign_below}
use Rattle.std.proofs.Common.{sym, subst}
use Rattle.jn_laws.specs.LawsOfWritten.{site_with}
use Rattle.jn_expr.specs.Envs.{IsThere}
use Rattle.jn_check.proofs.Standing.{there_before}
use Rattle.jn_check.proofs.LocalLaws.{assigned_fits}
use Rattle.jn_check.proofs.assign.check_assign.Goals as goal

pub check_below-requires-clause-scope : goal.check_below-requires-clause-scope
check_below-requires-clause-scope c =
    scope_stays (is_scope c.args.p.now c.args.class.now c.args.m.now.name.name c.args.env.now.pool c.args.env.now.vars.list c.args.x.now c.requires.before) c.in_ok-variable_named.ensures.keeps

pub returns-in_ok-note_var-in-Some-clause-told : goal.returns-in_ok-note_var-in-Some-clause-told
returns-in_ok-note_var-in-Some-clause-told c = λ t.
    let X = before_at c.args.env.now c.args.x.now in
    let o = var_named c.args.env.now.vars c.args.name.now.name in
    kept_told c.args.p.now c.args.class.now c.args.m.now.name.name c.args.env.now c.args.x.now c.check_below.new.env (record c.args.x.now { scope = c.check_below.new.scope }) c.requires.before
    (record { same = c.check_below.ensures.stays.same; pool = keeps_more c.in_ok-variable_named.ensures.keeps c.check_below.ensures.stays.pool }) c.check_below.result refl refl
    c.check_below.ensures.kept (assign_typed (in_at c.args.class.now c.args.m.now t) X c.args.name.now c.args.e.now o) c.args.env.now.marks c.check_below.new.env.marks
    (assign_below c.args.p.now (in_at c.args.class.now c.args.m.now t) X c.args.name.now c.args.e.now o c.args.env.now.marks c.variable_named.new.pool c.in_ok-variable_named.field-0
    c.in_ok-variable_named.ensures.is c.in-Some.v c.in-Some.is c.if-v.false c.note_var.new.marks c.check_below.new.env.marks c.in_ok-note_var-in-Some.ensures c.check_below.result
    (leads_as c.args.p.now _ _ (λ (u : Unit {0}). done X) c.note_var.new.marks c.check_below.new.env.marks c.check_below.result
    (below_as c.args.class.now c.args.m.now t c.args.env.now.vars.list c.args.env.now.vars.list (scope_in c.args.env.now.pool c.args.x.now.scope) c.args.x.now.next c.args.e.now
    (scope_in c.args.env.now.pool c.args.x.now.scope) (scope_in c.variable_named.new.pool c.args.x.now.scope) (shown c.variable_named.new.pool c.in-Some.v.ty) (shown c.variable_named.new.pool c.in-Some.v.ty) (done X) refl
    (scope_kept c.args.x.now.scope c.requires.before.known c.in_ok-variable_named.ensures.keeps) refl)
    (c.check_below.ensures.told t (scope_in c.args.env.now.pool c.args.x.now.scope) c.args.x.now.next (done X))))

pub returns-in_ok-note_var-in-Some-clause-after : goal.returns-in_ok-note_var-in-Some-clause-after
returns-in_ok-note_var-in-Some-clause-after c =
    kept_after c.args.p.now c.args.class.now c.args.m.now.name.name c.args.env.now c.args.x.now c.check_below.new.env (record c.args.x.now { scope = c.check_below.new.scope }) c.requires.before
    (record { same = c.check_below.ensures.stays.same; pool = keeps_more c.in_ok-variable_named.ensures.keeps c.check_below.ensures.stays.pool }) c.check_below.result refl refl
    c.check_below.ensures.kept

pub returns-in_ok-note_var-in-Some-clause-stays : goal.returns-in_ok-note_var-in-Some-clause-stays
returns-in_ok-note_var-in-Some-clause-stays c =
    stays_but (record { same = c.check_below.ensures.stays.same; pool = keeps_more c.in_ok-variable_named.ensures.keeps c.check_below.ensures.stays.pool })

pub check_below-requires-clause-there : goal.check_below-requires-clause-there
check_below-requires-clause-there c =
    subst (IsThere c.args.p.now (site_with c.args.class.now c.args.m.now.name.name c.args.env.now.vars.list))
    (sym (scope_kept c.args.x.now.scope c.requires.before.known c.in_ok-variable_named.ensures.keeps))
    (there_before c.args.p.now c.args.class.now c.args.m.now.name.name c.args.env.now.pool c.args.env.now.vars.list c.args.x.now c.requires.before)

pub check_below-requires-clause-fits : goal.check_below-requires-clause-fits
check_below-requires-clause-fits c =
    assigned_fits c.args.p.now (site_with c.args.class.now c.args.m.now.name.name c.args.env.now.vars.list) (scope_in c.variable_named.new.pool c.args.x.now.scope)
    (subst (IsThere c.args.p.now (site_with c.args.class.now c.args.m.now.name.name c.args.env.now.vars.list))
    (sym (scope_kept c.args.x.now.scope c.requires.before.known c.in_ok-variable_named.ensures.keeps))
    (there_before c.args.p.now c.args.class.now c.args.m.now.name.name c.args.env.now.pool c.args.env.now.vars.list c.args.x.now c.requires.before))
    c.variable_named.new.pool c.args.name.now.name c.in-Some.v c.in_ok-variable_named.field-0 c.in-Some.is c.in_ok-variable_named.ensures.is
