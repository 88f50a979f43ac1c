use Rattle.std.proofs.Common.{sym, arith}
use Rattle.std.proofs.lemmas.Result.{IfOk-weaker}
use Rattle.jn_names.proofs.MemberProof.{among_of}
use Rattle.jn_intern.specs.Pools.{scope_in}
use Rattle.jn_expr.proofs.Fitting.{fit_all}
use Rattle.jn_expr.proofs.fits.atoms_fit.Goals as goal

pub returns-else-depth-gt255 : goal.returns-else-depth-gt255
returns-else-depth-gt255 c =
    IfOk-weaker c.all_fit_at.result _ _
    (λ r h t. fit_all (scope_in c.args.pool.now c.args.scope.now) c.args.xs.now c.in_ok-depth-in-Some.depth c.in-Some.one.now
    (among_of c.args.xs.now 0 c.in-Some.one.now (sym c.in-Some.ensures.value)) c.in_ok-depth-in-Some.ensures (omega (arith, c.if-depth-gt255.false)) (h t))
    c.all_fit_at.ensures
