use Rattle.std.proofs.Common.{refl, sym, ap, ◌∙◌}
use Rattle.std.specs.Prelude.{Option}
use Rattle.jn_base.specs.declared.tree.Expr.{Expr}
use Rattle.jn_rules.specs.Stmts.{is_void, return_typed}
use Rattle.jn_check.specs.States.{in_at, before_at}
use Rattle.jn_check.proofs.Standing.{after_kept, but_same}
use Rattle.jn_check.proofs.Telling.{told_as}
use Rattle.jn_check.proofs.SimpleLaws.{return_none, return_refused}
use Rattle.jn_check.proofs.simple.check_return.Goals as goal

pub returns-in-Some-clause-told : goal.returns-in-Some-clause-told
returns-in-Some-clause-told c = λ t sh.
    told_as c.args.p.now _ _ _ c.args.env.now.marks _ c.return_value.result
    (ap (λ (o : Option Expr). return_typed (in_at c.args.class.now c.args.m.now t) (before_at c.args.env.now c.args.x.now) o c.args.at) c.in-Some.is) (c.return_value.ensures.told t sh)

pub returns-then-not-is_void-clause-told : goal.returns-then-not-is_void-clause-told
returns-then-not-is_void-clause-told c = λ t sh.
    return_refused c.args.p.now (in_at c.args.class.now c.args.m.now t) (before_at c.args.env.now c.args.x.now) c.args.at c.args.env.now.marks {B = Unit {0}}
    (λ (u : Unit {0}). before_at c.args.env.now c.args.x.now) c.args.e.now c.in-None.is
    (ap is_void (sym sh.shows) ∙ (sym (ap is_void c.show.ensures) ∙ (sym c.is_void.ensures ∙ c.if-not-is_void.true))) c.refused.result c.refused.ensures

pub returns-else-not-is_void-clause-told : goal.returns-else-not-is_void-clause-told
returns-else-not-is_void-clause-told c = λ t sh.
    return_none c.args.p.now (in_at c.args.class.now c.args.m.now t) (before_at c.args.env.now c.args.x.now) c.args.at c.args.env.now.marks c.args.e.now c.in-None.is
    (ap is_void (sym sh.shows) ∙ (sym (ap is_void c.show.ensures) ∙ (sym c.is_void.ensures ∙ c.if-not-is_void.false)))

pub returns-else-not-is_void-clause-after : goal.returns-else-not-is_void-clause-after
returns-else-not-is_void-clause-after c =
    after_kept c.args.p.now c.args.class.now c.args.m.now.name.name c.args.env.now c.args.x.now c.args.env.now c.args.x.now c.requires.before (but_same c.args.env.now) refl
    (record { declared = refl; scope = refl; next = refl })
