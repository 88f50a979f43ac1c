use Rattle.std.proofs.lemmas.Result.{IfOk-weaker}
use Rattle.jn_intern.proofs.Pools.{keeps_more, scope_kept}
use Rattle.jn_expr.proofs.Scopes.{scope_stays}
use Rattle.jn_expr.proofs.Granting.{formed, below_back}
use Rattle.jn_expr.proofs.Typeds.{fits_kept}
use Rattle.jn_expr.proofs.grants.is_below_left.Goals as goal

pub normal_of-requires-clause-scope : goal.normal_of-requires-clause-scope
normal_of-requires-clause-scope c = scope_stays c.requires.scope c.in_ok-id.ensures.keeps

pub below-requires-clause-scope : goal.below-requires-clause-scope
below-requires-clause-scope c = scope_stays c.requires.scope (keeps_more c.in_ok-id.ensures.keeps c.in_ok-form.ensures.keeps)

pub returns-clause-below : goal.returns-clause-below
returns-clause-below c =
    let k = keeps_more c.in_ok-id.ensures.keeps c.in_ok-form.ensures.keeps in
    IfOk-weaker c.below.result _ _
    (λ r h p f. below_back p _ _ _ _ _ _ r (scope_kept c.args.scope.now c.requires.scope.known k) (k.shows c.args.from c.requires.number)
    (formed c.args.pool.now c.intern.new.self c.normal_of.new.pool c.args.scope.now c.in_ok-id.id c.in_ok-form.form c.args.left.now c.requires.scope c.in_ok-id.ensures.keeps
    c.in_ok-id.ensures.shows.1 c.in_ok-form.ensures.is).shows (h p f))
    c.below.ensures.below

pub returns-clause-keeps : goal.returns-clause-keeps
returns-clause-keeps c = keeps_more c.in_ok-id.ensures.keeps (keeps_more c.in_ok-form.ensures.keeps c.below.ensures.keeps)

pub below-requires-clause-s_fits : goal.below-requires-clause-s_fits
below-requires-clause-s_fits c = fits_kept c.requires.scope (keeps_more c.in_ok-id.ensures.keeps c.in_ok-form.ensures.keeps) c.requires.number c.requires.fits
