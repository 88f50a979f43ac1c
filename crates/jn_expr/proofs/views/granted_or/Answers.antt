use Rattle.std.proofs.Common.{true, false}
use Rattle.jn_intern.specs.Pools.{scope_in, shown}
use Rattle.jn_intern.proofs.Pools.{scope_kept}
use Rattle.jn_rules.specs.Exprs.{header_grants}
use Rattle.jn_expr.specs.Envs.{here_at}
use Rattle.jn_expr.specs.Values.{typed_in}
use Rattle.jn_expr.proofs.Scopes.{scope_stays, stays_more}
use Rattle.jn_expr.proofs.Viewing.{granted_fault, granted_told, viewed_at, by_sharing_at, quiet_is}
use Rattle.jn_expr.proofs.Typeds.{fits_kept}
use Rattle.jn_expr.proofs.views.granted_or.Goals as goal

pub viewed-requires : goal.viewed-requires
viewed-requires c = scope_stays c.requires.scope c.header_grants.ensures.stays.pool

pub unless_path-requires-clause-scope : goal.unless_path-requires-clause-scope
unless_path-requires-clause-scope c = scope_stays c.requires.scope c.header_grants.ensures.stays.pool

pub returns-in-Err-clause-told : goal.returns-in-Err-clause-told
returns-in-Err-clause-told c = λ u e.
    granted_fault c.args.p.now (typed_in c.header_grants.new.env.pool c.args.scope.now) c.args.env.now.marks c.header_grants.new.env.marks c.header_grants.new.env.marks
    c.header_grants.ensures.marks (here_at c.args.class.now c.args.m.now c.args.env.now.vars.list) c.args.at u (shown c.args.env.now.pool c.args.from)
    (scope_in c.args.env.now.pool c.args.scope.now) c.in-Err.fault (c.in-Err.ensures.told u e)

pub returns-then-granted-clause-told : goal.returns-then-granted-clause-told
returns-then-granted-clause-told c = λ u e.
    let s = scope_in c.args.env.now.pool c.args.scope.now in
    let t = shown c.args.env.now.pool c.args.from in
    let h = here_at c.args.class.now c.args.m.now c.args.env.now.vars.list in
    let show = typed_in c.viewed.new.env.pool c.args.scope.now in
    granted_told c.args.p.now show c.args.env.now.marks c.header_grants.new.env.marks c.viewed.new.env.marks c.header_grants.ensures.marks h c.args.at u t s true c.viewed.result
    (quiet_is c.args.p.now (header_grants h s t u) c.in-Ok.granted true c.if-granted.true (c.in-Ok.ensures.told u e))
    (viewed_at c.args.p.now show c.header_grants.new.env.marks c.viewed.new.env.marks c.viewed.result u s _ c.args.target.now
    (scope_kept c.args.scope.now c.requires.scope.known c.header_grants.ensures.stays.pool) e (c.viewed.ensures.told c.args.p.now))

pub returns-then-granted-clause-stays : goal.returns-then-granted-clause-stays
returns-then-granted-clause-stays c = stays_more c.header_grants.ensures.stays c.viewed.ensures.stays

pub returns-else-granted-clause-told : goal.returns-else-granted-clause-told
returns-else-granted-clause-told c = λ u e.
    let s = scope_in c.args.env.now.pool c.args.scope.now in
    let t = shown c.args.env.now.pool c.args.from in
    let h = here_at c.args.class.now c.args.m.now c.args.env.now.vars.list in
    let show = typed_in c.unless_path.new.env.pool c.args.scope.now in
    let k = c.header_grants.ensures.stays.pool in
    granted_told c.args.p.now show c.args.env.now.marks c.header_grants.new.env.marks c.unless_path.new.env.marks c.header_grants.ensures.marks h c.args.at u t s false
    c.unless_path.result
    (quiet_is c.args.p.now (header_grants h s t u) c.in-Ok.granted false c.if-granted.false (c.in-Ok.ensures.told u e))
    (by_sharing_at c.args.p.now show c.header_grants.new.env.marks c.unless_path.new.env.marks c.unless_path.result c.args.at u s _ t _
    (scope_kept c.args.scope.now c.requires.scope.known k) (k.shows c.args.from c.requires.number) (c.unless_path.ensures.told u e))

pub returns-else-granted-clause-stays : goal.returns-else-granted-clause-stays
returns-else-granted-clause-stays c = stays_more c.header_grants.ensures.stays c.unless_path.ensures.stays

pub unless_path-requires-clause-fits : goal.unless_path-requires-clause-fits
unless_path-requires-clause-fits c = fits_kept c.requires.scope c.header_grants.ensures.stays.pool c.requires.number c.requires.fits
