use Rattle.std.proofs.Common.{◌∙◌, ap, sym}
use Rattle.jn_intern.specs.Pools.{scope_in}
use Rattle.jn_rules.specs.Exprs.{is_object, is_null_type}
use Rattle.jn_expr.specs.Envs.{here_at}
use Rattle.jn_expr.specs.Values.{typed_in}
use Rattle.std.proofs.Common.{refl}
use Rattle.jn_expr.proofs.Viewing.{changed_null, viewed_at}
use Rattle.jn_expr.proofs.views.change_view.Goals as goal

pub returns-then-is_null-clause-told : goal.returns-then-is_null-clause-told
returns-then-is_null-clause-told c = λ u e.
    let s = scope_in c.args.env.now.pool c.args.scope.now in
    let show = typed_in c.viewed.new.env.pool c.args.scope.now in
    changed_null c.args.p.now show c.args.env.now.marks c.viewed.new.env.marks c.viewed.result (here_at c.args.class.now c.args.m.now c.args.env.now.vars.list) c.args.at c.args.place u
    (typed_in c.args.env.now.pool c.args.scope.now c.args.x)
    (sym (ap is_object c.show.ensures) ∙ (sym c.is_object.ensures ∙ c.if-not-is_object.false))
    (sym (ap is_null_type c.show-2.ensures) ∙ (sym c.is_null.ensures ∙ c.if-is_null.true))
    (viewed_at c.args.p.now show c.args.env.now.marks c.viewed.new.env.marks c.viewed.result u s s c.args.target.now refl e (c.viewed.ensures.told c.args.p.now))

pub granted_or-requires-clause-fits : goal.granted_or-requires-clause-fits
granted_or-requires-clause-fits c = c.requires.fits.type
