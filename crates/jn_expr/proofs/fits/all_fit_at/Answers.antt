use Rattle.std.proofs.Common.{All, subst}
use Rattle.std.proofs.lemmas.List.{take_all}
use Rattle.jn_base.specs.declared.types.Atom.{Atom}
use Rattle.jn_base.specs.Atoms.{atom_of}
use Rattle.jn_intern.specs.Pools.{scope_in}
use Rattle.jn_expr.specs.Fitting.{FitsAt}
use Rattle.jn_expr.proofs.Fitting.{all_more}
use Rattle.jn_expr.proofs.fits.all_fit_at.Goals as goal

pub loop-x-preserved : goal.loop-x-preserved
loop-x-preserved c =
    all_more (λ (x : Atom). FitsAt (scope_in c.args.pool.now c.args.scope.now) c.args.depth (atom_of x)) c.args.xs.now c.loop-x.x-index c.x-item.result c.loop-x-test.true c.x-item.is c.loop-x.invariant
    (c.in_ok-fits_at.ensures c.if-not-branch.false)

pub returns : goal.returns
returns c = λ t.
    subst (All (λ (x : Atom). FitsAt (scope_in c.args.pool.now c.args.scope.now) c.args.depth (atom_of x))) (take_all c.loop-x.x-index c.args.xs.now c.loop-x-test.false) c.loop-x.invariant
