use Rattle.std.proofs.Common.{Some, refl, sym, ap, ◌∙◌}
use Rattle.jn_base.specs.declared.types.Ty.{Ty}
use Rattle.jn_intern.specs.Pools.{scope_in}
use Rattle.jn_rules.specs.Plans.{done}
use Rattle.jn_rules.specs.Stmts.{is_void, typed_below, return_typed}
use Rattle.jn_check.specs.States.{in_at, before_at}
use Rattle.jn_check.proofs.Standing.{is_scope, stays_but}
use Rattle.jn_check.proofs.Telling.{told_as, leads_as}
use Rattle.jn_check.proofs.SimpleLaws.{return_below, never_ok}
use Rattle.jn_check.proofs.KeptLaws.{kept_after, kept_told}
use Rattle.jn_check.proofs.Standing.{there_before}
use Rattle.std.proofs.Common.{subst}
use Rattle.jn_base.specs.Fits.{TypeFits}
use Rattle.jn_check.proofs.simple.return_value.Goals as goal

pub check_below-requires-clause-scope : goal.check_below-requires-clause-scope
check_below-requires-clause-scope c = is_scope c.args.p.now c.args.class.now c.args.m.now.name.name c.args.env.now.pool c.args.env.now.vars.list c.args.x.now c.requires.before

pub returns-then-is_void-clause-told : goal.returns-then-is_void-clause-told
returns-then-is_void-clause-told c = λ t sh.
    c.return_vainly.ensures.told t (ap is_void (sym sh.shows) ∙ (sym (ap is_void c.show.ensures) ∙ (sym c.is_void.ensures ∙ c.if-is_void.true)))

pub returns-then-is_void-clause-after : goal.returns-then-is_void-clause-after
returns-then-is_void-clause-after c = never_ok _ c.return_vainly.result c.return_vainly.ensures.fails

pub returns-clause-told : goal.returns-clause-told
returns-clause-told c = λ t sh.
    let X = before_at c.args.env.now c.args.x.now in
    let plain = ap is_void (sym sh.shows) ∙ (sym (ap is_void c.show.ensures) ∙ (sym c.is_void.ensures ∙ c.if-is_void.false)) in
    told_as c.args.p.now (return_typed (in_at c.args.class.now c.args.m.now t) X (Some c.args.e.now) c.args.at)
    (typed_below (in_at c.args.class.now c.args.m.now t) X c.args.e.now (scope_in c.args.env.now.pool c.args.x.now.scope) t (done X)) _ c.args.env.now.marks _ c.check_below.result (return_below c.args.p.now (in_at c.args.class.now c.args.m.now t) X c.args.e.now c.args.env.now.marks c.args.at plain)
    (kept_told c.args.p.now c.args.class.now c.args.m.now.name.name c.args.env.now c.args.x.now c.check_below.new.env (record c.args.x.now { scope = c.check_below.new.scope }) c.requires.before
    c.check_below.ensures.stays c.check_below.result refl refl c.check_below.ensures.kept
    (typed_below (in_at c.args.class.now c.args.m.now t) X c.args.e.now (scope_in c.args.env.now.pool c.args.x.now.scope) t (done X)) c.args.env.now.marks c.check_below.new.env.marks
    (leads_as c.args.p.now _ _ (λ (u : Unit {0}). done X) c.args.env.now.marks c.check_below.new.env.marks c.check_below.result
    (ap (λ (u : Ty). typed_below (in_at c.args.class.now c.args.m.now t) X c.args.e.now (scope_in c.args.env.now.pool c.args.x.now.scope) u (done X)) sh.shows)
    (c.check_below.ensures.told t (scope_in c.args.env.now.pool c.args.x.now.scope) c.args.x.now.next (done X))))

pub returns-clause-after : goal.returns-clause-after
returns-clause-after c =
    kept_after c.args.p.now c.args.class.now c.args.m.now.name.name c.args.env.now c.args.x.now c.check_below.new.env (record c.args.x.now { scope = c.check_below.new.scope }) c.requires.before
    c.check_below.ensures.stays c.check_below.result refl refl c.check_below.ensures.kept

pub returns-clause-stays : goal.returns-clause-stays
returns-clause-stays c = stays_but c.check_below.ensures.stays

pub check_below-requires-clause-there : goal.check_below-requires-clause-there
check_below-requires-clause-there c = there_before c.args.p.now c.args.class.now c.args.m.now.name.name c.args.env.now.pool c.args.env.now.vars.list c.args.x.now c.requires.before

pub check_below-requires-clause-fits : goal.check_below-requires-clause-fits
check_below-requires-clause-fits c =
    subst (TypeFits (scope_in c.args.env.now.pool c.args.x.now.scope)) c.show-2.ensures (c.in_ok-type_fits.ensures c.if-not-branch.false)
