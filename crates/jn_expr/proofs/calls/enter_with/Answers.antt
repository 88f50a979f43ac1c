use Rattle.jn_intern.specs.Pools.{shown}
use Rattle.jn_expr.specs.Calling.{body_of}
use Rattle.jn_expr.proofs.Scopes.{scope_stays}
use Rattle.jn_expr.proofs.CallSteps.{begun}
use Rattle.jn_expr.proofs.CallDepths.{begun_call_fits, begins_call, begun_count, deep_kept}
use Rattle.jn_expr.proofs.Typeds.{fits_kept, typed_kept}
use Rattle.jn_expr.proofs.calls.enter_with.Goals as goal

pub path_of-requires-clause-scope : goal.path_of-requires-clause-scope
path_of-requires-clause-scope c = scope_stays c.requires.scope c.enter.ensures.stays.pool

pub returns-in_ok-call-in-Ok-clause-call : goal.returns-in_ok-call-in-Ok-clause-call
returns-in_ok-call-in-Ok-clause-call c =
    begun c.args.env.now.pool c.enter.new.env.pool c.args.scope.now c.path_of.new.scope c.args.x.ty c.args.x.path c.in_ok-path-in-Ok.path c.in-Ok.header c.in_ok-call-in-Ok.call
    c.requires.scope c.requires.number c.enter.ensures.stays.pool c.in-Ok.ensures.number c.in_ok-path-in-Ok.ensures c.in_ok-call-in-Ok.ensures

pub path_of-requires-clause-fits : goal.path_of-requires-clause-fits
path_of-requires-clause-fits c = fits_kept c.requires.scope c.enter.ensures.stays.pool c.requires.number c.requires.fits.type

pub returns-in_ok-call-in-Ok-clause-fits : goal.returns-in_ok-call-in-Ok-clause-fits
returns-in_ok-call-in-Ok-clause-fits c =
    let k = c.enter.ensures.stays.pool in
    begun_call_fits c.args.p.now c.enter.new.env.pool c.args.scope.now c.path_of.new.scope (shown c.enter.new.env.pool c.args.x.ty) c.args.x.path c.in_ok-path-in-Ok.path
    (body_of c.args.owner.now c.args.method.now) c.in-Ok.header c.in_ok-call-in-Ok.call (scope_stays c.requires.scope k) c.in-Ok.ensures.fits
    (begins_call c.enter.new.env.pool c.in-Ok.header c.in_ok-path-in-Ok.path c.in_ok-call-in-Ok.call c.in-Ok.ensures.number c.in_ok-call-in-Ok.ensures)
    c.in_ok-call-in-Ok.ensures c.in_ok-path-in-Ok.ensures (typed_kept c.requires.scope k c.requires.number c.requires.fits)
    (deep_kept c.requires.scope k c.requires.number c.requires.deep)

pub returns-in_ok-call-in-Ok-clause-count : goal.returns-in_ok-call-in-Ok-clause-count
returns-in_ok-call-in-Ok-clause-count c = begun_count c.in-Ok.header c.in_ok-path-in-Ok.path c.args.count c.in_ok-call-in-Ok.call c.in_ok-call-in-Ok.ensures c.in-Ok.ensures.count
