use Rattle.std.proofs.Common.{◌∙◌, refl, sym, ap, subst, true}
use Rattle.std.proofs.lemmas.Result.{IfOk-weaker}
use Rattle.jn_base.specs.Atoms.{atom_of}
use Rattle.jn_base.specs.Scopes.{Scope as TypeScope, bound}
use Rattle.jn_intern.specs.Pools.{scope_in, shown}
use Rattle.jn_intern.proofs.Pools.{keeps_more, scope_kept}
use Rattle.jn_sem.specs.NormalFunction.{normal_type}
use Rattle.jn_rules.specs.Exprs.{path_type, of_atom}
use Rattle.jn_expr.proofs.Scopes.{scope_stays}
use Rattle.jn_expr.proofs.CallSteps.{below_at}
use Rattle.jn_expr.proofs.CallDepths.{this_deep, deep_moved}
use Rattle.jn_base.specs.Fits.{TypeFits}
use Rattle.jn_expr.proofs.Typeds.{path_fits, written_kept}
use Rattle.jn_expr.proofs.supers.this_below.Goals as goal

pub normal_atom-requires : goal.normal_atom-requires
normal_atom-requires c = scope_stays c.requires.scope c.in_ok-from.ensures.keeps

pub below-requires-clause-scope : goal.below-requires-clause-scope
below-requires-clause-scope c = scope_stays c.requires.scope (keeps_more c.in_ok-from.ensures.keeps c.in_ok-to.ensures.keeps)

pub returns-clause-below : goal.returns-clause-below
returns-clause-below c =
    IfOk-weaker c.below.result _ _
    (λ r h p filled.
    below_at p (scope_in c.normal_atom.new.pool c.args.scope.now) (scope_in c.args.pool.now c.args.scope.now)
    (shown c.normal_atom.new.pool c.in_ok-from.from) (path_type (scope_in c.args.pool.now c.args.scope.now) 0)
    (shown c.normal_atom.new.pool c.in_ok-to.to) (normal_type (scope_in c.args.pool.now c.args.scope.now) (of_atom c.args.x.now)) r r
    (scope_kept c.args.scope.now c.requires.scope.known (keeps_more c.in_ok-from.ensures.keeps c.in_ok-to.ensures.keeps))
    (c.in_ok-to.ensures.keeps.shows c.in_ok-from.from c.in_ok-from.ensures.shows.0 ∙ (c.in_ok-from.ensures.shows.1 ∙ c.in_ok-this.ensures))
    (c.in_ok-to.ensures.is.shows
    ∙ ap (λ (q : TypeScope). normal_type q (of_atom c.args.x.now)) (scope_kept c.args.scope.now c.requires.scope.known c.in_ok-from.ensures.keeps))
    refl (h p filled))
    c.below.ensures.below

pub returns-clause-keeps : goal.returns-clause-keeps
returns-clause-keeps c = keeps_more (keeps_more c.in_ok-from.ensures.keeps c.in_ok-to.ensures.keeps) c.below.ensures.keeps

pub below-requires-clause-s_fits : goal.below-requires-clause-s_fits
below-requires-clause-s_fits c =
    subst (TypeFits (scope_in c.normal_atom.new.pool c.args.scope.now))
    (sym (c.in_ok-to.ensures.keeps.shows c.in_ok-from.from c.in_ok-from.ensures.shows.0 ∙ (c.in_ok-from.ensures.shows.1 ∙ c.in_ok-this.ensures)))
    (written_kept c.requires.scope (keeps_more c.in_ok-from.ensures.keeps c.in_ok-to.ensures.keeps)
    (path_fits (scope_in c.args.pool.now c.args.scope.now) 0 c.requires.scope.fits.binds c.requires.this).type)

pub returns-clause-deep : goal.returns-clause-deep
returns-clause-deep c =
    let s = scope_in c.args.pool.now c.args.scope.now in
    let k = keeps_more c.in_ok-from.ensures.keeps c.in_ok-to.ensures.keeps in
    let to_is = c.in_ok-to.ensures.is.shows
    ∙ ap (λ (q : TypeScope). normal_type q (of_atom c.args.x.now)) (scope_kept c.args.scope.now c.requires.scope.known c.in_ok-from.ensures.keeps) in
    IfOk-weaker c.below.result _ _
    (λ r h p filled t.
    this_deep p s (normal_type s (of_atom c.args.x.now)) (bound s (atom_of c.args.x.now)) c.requires.scope.fits.binds c.requires.this
    (below_at p (scope_in c.normal_atom.new.pool c.args.scope.now) s (shown c.normal_atom.new.pool c.in_ok-from.from) (path_type s 0)
    (shown c.normal_atom.new.pool c.in_ok-to.to) (normal_type s (of_atom c.args.x.now)) r true (scope_kept c.args.scope.now c.requires.scope.known k)
    (c.in_ok-to.ensures.keeps.shows c.in_ok-from.from c.in_ok-from.ensures.shows.0 ∙ (c.in_ok-from.ensures.shows.1 ∙ c.in_ok-this.ensures)) to_is t (h p filled))
    (deep_moved (scope_kept c.args.scope.now c.requires.scope.known k) to_is
    (ap (λ (q : TypeScope). bound q (atom_of c.args.x.now)) (scope_kept c.args.scope.now c.requires.scope.known c.in_ok-from.ensures.keeps)) c.in_ok-to.ensures.deep))
    c.below.ensures.below
