use Rattle.std.proofs.Common.{refl, ap, ◌∙◌}
use Rattle.jn_intern.proofs.Pools.{keeps_more}
use Rattle.jn_rules.specs.Stmts.{set_typed, dropped}
use Rattle.jn_expr.specs.Envs.{Parts}
use Rattle.jn_expr.proofs.Scopes.{vars_stay}
use Rattle.jn_check.specs.States.{in_at, before_at}
use Rattle.jn_check.proofs.Standing.{is_scope, stays_but}
use Rattle.jn_check.proofs.Telling.{told_fault}
use Rattle.jn_check.proofs.SetLaws.{scope_again, set_after, set_went}
use Rattle.jn_check.proofs.Standing.{there_before}
use Rattle.jn_check.proofs.sets.check_set.Goals as goal

pub stored-requires-clause-scope : goal.stored-requires-clause-scope
stored-requires-clause-scope c = is_scope c.args.p.now c.args.class.now c.args.m.now.name.name c.args.env.now.pool c.args.env.now.vars.list c.args.x.now c.requires.before

pub drop_field-requires : goal.drop_field-requires
drop_field-requires c =
    scope_again c.args.env.now.pool c.stored.new.env.pool c.args.x.now.scope c.stored.new.scope
    (is_scope c.args.p.now c.args.class.now c.args.m.now.name.name c.args.env.now.pool c.args.env.now.vars.list c.args.x.now c.requires.before) c.stored.ensures.stays.pool c.in-Ok.ensures.kept

pub returns-in-Err-clause-told : goal.returns-in-Err-clause-told
returns-in-Err-clause-told c = λ t.
    let X = before_at c.args.env.now c.args.x.now in
    told_fault {C = Unit {0}} c.args.p.now (set_typed (in_at c.args.class.now c.args.m.now t) X c.args.of.now c.args.f.now c.args.e.now) (λ path. dropped X c.args.f.now.name path) (λ (u : Unit {0}). X) c.args.env.now.marks
    c.stored.new.env.marks c.stored.new.env.marks c.in-Err.fault (c.in-Err.ensures.told t c.args.x.now.next)

pub returns-in-Err-clause-stays : goal.returns-in-Err-clause-stays
returns-in-Err-clause-stays c = stays_but c.stored.ensures.stays

pub returns-in_err-drop_field-in-Ok-clause-stays : goal.returns-in_err-drop_field-in-Ok-clause-stays
returns-in_err-drop_field-in-Ok-clause-stays c = stays_but (record { same = c.stored.ensures.stays.same; pool = keeps_more c.stored.ensures.stays.pool c.drop_field.ensures.keeps })

pub returns-in_ok-drop_field-in-Ok-clause-told : goal.returns-in_ok-drop_field-in-Ok-clause-told
returns-in_ok-drop_field-in-Ok-clause-told c = λ t.
    let X = before_at c.args.env.now c.args.x.now in
    set_went c.args.p.now c.args.class.now c.args.m.now.name.name c.args.env.now c.args.x.now c.stored.new.env (record c.args.x.now { scope = c.stored.new.scope })
    (record c.stored.new.env { pool = c.drop_field.new.pool }) (record c.args.x.now { scope = c.drop_field.new.scope }) c.requires.before c.stored.ensures.stays.pool c.in-Ok.ensures.kept
    (keeps_more c.stored.ensures.stays.pool c.in_ok-drop_field-in-Ok.ensures.keeps) (vars_stay c.stored.ensures.stays) refl refl
    (set_typed (in_at c.args.class.now c.args.m.now t) X c.args.of.now c.args.f.now c.args.e.now) c.args.f.now.name c.in-Ok.path c.args.env.now.marks c.stored.new.env.marks
    (c.in-Ok.ensures.told t c.args.x.now.next)
    (c.in_ok-drop_field-in-Ok.ensures.is c.args.p.now c.args.env.now.vars.list c.args.x.now.next
    (c.deref.ensures.value ∙ (ap (λ (q : Parts). q.masks) c.stored.ensures.stays.same ∙ c.requires.parts.masks)))

pub returns-in_ok-drop_field-in-Ok-clause-after : goal.returns-in_ok-drop_field-in-Ok-clause-after
returns-in_ok-drop_field-in-Ok-clause-after c =
    set_after c.args.p.now c.args.class.now c.args.m.now.name.name c.args.env.now c.args.x.now c.stored.new.env (record c.args.x.now { scope = c.stored.new.scope })
    (record c.stored.new.env { pool = c.drop_field.new.pool }) (record c.args.x.now { scope = c.drop_field.new.scope }) c.requires.before c.stored.ensures.stays.pool c.in-Ok.ensures.kept
    (keeps_more c.stored.ensures.stays.pool c.in_ok-drop_field-in-Ok.ensures.keeps) (vars_stay c.stored.ensures.stays) refl refl c.in_ok-drop_field-in-Ok.ensures.known
    c.in_ok-drop_field-in-Ok.ensures.agree

pub returns-in_ok-drop_field-in-Ok-clause-stays : goal.returns-in_ok-drop_field-in-Ok-clause-stays
returns-in_ok-drop_field-in-Ok-clause-stays c = stays_but (record { same = c.stored.ensures.stays.same; pool = keeps_more c.stored.ensures.stays.pool c.in_ok-drop_field-in-Ok.ensures.keeps })

pub stored-requires-clause-there : goal.stored-requires-clause-there
stored-requires-clause-there c = there_before c.args.p.now c.args.class.now c.args.m.now.name.name c.args.env.now.pool c.args.env.now.vars.list c.args.x.now c.requires.before
