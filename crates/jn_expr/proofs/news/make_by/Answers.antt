use Rattle.std.proofs.Common.{◌∙◌, ℕ, List, ap, get_or, length, Option, Some}
use Rattle.jn_intern.specs.Pools.{scope_in, shown}
use Rattle.jn_expr.specs.Envs.{here_at}
use Rattle.jn_expr.specs.Calling.{body_of}
use Rattle.jn_expr.specs.Making.{made_left}
use Rattle.jn_expr.proofs.CallDepths.{deep_class}
use Rattle.jn_expr.proofs.NewSteps.{make_fault, make_told, awaits_some, begun_fits}
use Rattle.jn_expr.proofs.Typeds.{plain_fits}
use Rattle.jn_expr.proofs.news.make_by.Goals as goal

pub returns-in-Err-clause-told : goal.returns-in-Err-clause-told
returns-in-Err-clause-told c = λ es e.
    make_fault c.args.p.now (here_at c.args.class.now c.args.m.now c.args.env.now.vars.list) (body_of c.args.owner.now c.args.method.now) c.args.at es c.args.count
    (shown c.args.env.now.pool c.args.ty) (scope_in c.args.env.now.pool c.args.scope.now) c.args.env.now.marks c.enter_with.new.env.marks c.enter_with.new.env.pool
    c.args.scope.now c.enter_with.new.scope e c.in-Err.fault c.in-Err.ensures.told c.enter_with.new.env.marks
    (made_left (here_at c.args.class.now c.args.m.now c.args.env.now.vars.list) c.enter_with.new.env.pool c.enter_with.new.scope es)

pub returns-in-Some-clause-told : goal.returns-in-Some-clause-told
returns-in-Some-clause-told c = λ es e.
    make_told c.args.p.now (here_at c.args.class.now c.args.m.now c.args.env.now.vars.list) (body_of c.args.owner.now c.args.method.now) c.args.at es c.args.count
    (shown c.args.env.now.pool c.args.ty) (scope_in c.args.env.now.pool c.args.scope.now) c.args.env.now.marks c.enter_with.new.env.marks c.enter_with.new.env.pool
    c.args.scope.now c.enter_with.new.scope e c.in-Ok.call (record { ty = c.args.ty; path = Some c.in-Some.q.now }) c.in-Some.q.now c.in-Ok.ensures.call
    (c.in-Ok.ensures.stays.pool.shows c.args.ty c.requires.number)
    (ap (λ (k : ℕ). let o : Option ℕ = Some k in o) (c.in-Some.ensures.lookup.1 ∙ ap (λ (l : List ℕ). get_or l 0 c.in-Some.q.now) c.deref.ensures.value)) c.in-Ok.ensures.told

pub returns-in-Some-clause-made : goal.returns-in-Some-clause-made
returns-in-Some-clause-made c = record {
  number = c.in-Ok.ensures.stays.pool.has c.args.ty c.requires.number;
  scope = c.in-Ok.ensures.call.scope;
  grows = c.in-Ok.ensures.call.grows;
  fits = begun_fits c.args.env.now.pool c.enter_with.new.env.pool c.args.scope.now c.enter_with.new.scope c.args.ty c.in-Ok.call c.in-Some.q.now c.in-Some.q.now
      c.requires.scope c.requires.number c.in-Ok.ensures.stays.pool
      (deep_class (scope_in c.args.env.now.pool c.args.scope.now) (shown c.args.env.now.pool c.args.ty) c.args.owner.now c.requires.deep) c.requires.fits c.in-Ok.ensures.call
      (c.in-Some.ensures.lookup.1 ∙ ap (λ (l : List ℕ). get_or l 0 c.in-Some.q.now) c.deref.ensures.value);
}

pub returns-in-Some-clause-awaits : goal.returns-in-Some-clause-awaits
returns-in-Some-clause-awaits c =
    awaits_some c.args.p.now c.enter_with.new.env.pool (scope_in c.enter_with.new.env.pool c.enter_with.new.scope) c.args.count c.in-Ok.call c.in-Ok.ensures.fits
    (ap length c.in-Ok.ensures.call.paths) c.in-Ok.ensures.count

pub enter_with-requires-clause-fits : goal.enter_with-requires-clause-fits
enter_with-requires-clause-fits c = plain_fits (scope_in c.args.env.now.pool c.args.scope.now) (shown c.args.env.now.pool c.args.ty) c.requires.fits
