use Rattle.std.proofs.Common.{◌∙◌, ap, sym, subst}
use Rattle.jn_base.specs.Scopes.{Scope}
use Rattle.jn_base.specs.Fits.{TypeFits, ScopeFits}
use Rattle.jn_intern.specs.Pools.{scope_in, shown}
use Rattle.jn_intern.proofs.Pools.{keeps_more, scope_kept}
use Rattle.jn_sem.specs.Normal.{same_path}
use Rattle.jn_sem.specs.NormalFunction.{normal_type}
use Rattle.jn_sem.proofs.NormalTypes.{type_subst_is}
use Rattle.jn_expr.proofs.Fitting.{both_ok}
use Rattle.jn_check.proofs.types.normal_number.Goals as goal

pub normal-requires-clause-fits : goal.normal-requires-clause-fits
normal-requires-clause-fits c = subst ScopeFits (sym (scope_kept c.args.scope.now c.requires.known c.in_ok-id.ensures.keeps)) c.requires.fits

pub normal-requires-clause-type_fits : goal.normal-requires-clause-type_fits
normal-requires-clause-type_fits c =
    subst (TypeFits (scope_in c.intern.new.self c.args.scope.now)) (sym c.in_ok-id.ensures.shows.1)
    (subst (λ (s : Scope). TypeFits s c.args.ty.now) (sym (scope_kept c.args.scope.now c.requires.known c.in_ok-id.ensures.keeps)) c.requires.type_fits)

pub returns-clause-is : goal.returns-clause-is
returns-clause-is c =
    both_ok c.normal.result (λ u n h. record {
      number = n;
      shows = (type_subst_is (scope_in c.intern.new.self c.args.scope.now) same_path (shown c.intern.new.self c.in_ok-id.id) (shown c.normal.new.pool u)).0 h
          ∙ (ap (λ (s : Scope). normal_type s (shown c.intern.new.self c.in_ok-id.id)) (scope_kept c.args.scope.now c.requires.known c.in_ok-id.ensures.keeps)
          ∙ ap (normal_type (scope_in c.args.pool.now c.args.scope.now)) c.in_ok-id.ensures.shows.1);
    }) c.normal.ensures.number c.normal.ensures.normal

pub returns-clause-keeps : goal.returns-clause-keeps
returns-clause-keeps c = keeps_more c.in_ok-id.ensures.keeps c.normal.ensures.keeps
