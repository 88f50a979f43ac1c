use Rattle.std.proofs.Common.{◌∙◌, ap, subst, sym, List}
use Rattle.jn_intern.specs.declared.scope.Bind.{Bind}
use Rattle.jn_subtype.specs.Binds.{binds_in}
use Rattle.jn_rules.specs.Exprs.{next_path}
use Rattle.jn_expr.specs.Envs.{InOrder}
use Rattle.jn_expr.proofs.Scopes.{fresh_bound}
use Rattle.jn_expr.proofs.types.fresh_path.Goals as goal

pub returns : goal.returns
returns c =
    fresh_bound c.args.pool.now c.args.scope.now _ c.args.ty c.in_ok-path.path c.requires.scope c.requires.number c.requires.fits
    (c.in_ok-path.ensures c.args.pool.now (subst (λ (bs : List Bind). InOrder (binds_in c.args.pool.now bs)) (sym c.deref.ensures.value) c.requires.scope.order)
    ∙ ap (λ (bs : List Bind). next_path (binds_in c.args.pool.now bs)) c.deref.ensures.value)
    c.in_ok-push.ensures.items
