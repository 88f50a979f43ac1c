use Rattle.std.proofs.Common.{◌∙◌, ap, sym, subst, length, List}
use Rattle.std.proofs.lemmas.Bool.{ltb-true}
use Rattle.jn_base.specs.Scopes.{bound_of}
use Rattle.jn_base.specs.Fits.{Anchored}
use Rattle.jn_intern.specs.declared.scope.Bind.{Bind}
use Rattle.jn_intern.specs.Pools.{scope_in}
use Rattle.jn_subtype.specs.Binds.{binds_in}
use Rattle.jn_expr.proofs.Fitting.{anchored_by}
use Rattle.jn_expr.proofs.fits.is_anchored.Goals as goal

pub returns-in_ok-b-in-Up : goal.returns-in_ok-b-in-Up
returns-in_ok-b-in-Up c = λ t.
    subst (Anchored (scope_in c.args.pool.now c.args.scope.now)) (sym c.in-Up.is)
    (anchored_by (scope_in c.args.pool.now c.args.scope.now) c.in-Up.q c.in-Up.k c.depth.result
    (c.depth.ensures ∙ ap length (c.in_ok-b-in-Up.ensures ∙ ap (λ (bs : List Bind). bound_of (binds_in c.args.pool.now bs) c.in-Up.q) c.as_slice.ensures.value))
    (ltb-true c.in-Up.k c.depth.result t))
