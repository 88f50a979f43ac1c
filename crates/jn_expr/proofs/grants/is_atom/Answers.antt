use Rattle.std.proofs.Common.{◌∙◌, ap}
use Rattle.jn_base.specs.Scopes.{Scope}
use Rattle.jn_base.specs.Atoms.{no_masks}
use Rattle.jn_intern.specs.Pools.{scope_in}
use Rattle.jn_intern.proofs.Pools.{keeps_more, scope_kept}
use Rattle.jn_sem.specs.NormalFunction.{normal_type}
use Rattle.jn_rules.specs.Stmts.{remasked}
use Rattle.jn_expr.proofs.Scopes.{scope_stays}
use Rattle.jn_expr.proofs.Granting.{forms_same}
use Rattle.jn_expr.proofs.grants.is_atom.Goals as goal

pub normal_unmasked-requires-2 : goal.normal_unmasked-requires-2
normal_unmasked-requires-2 c = scope_stays c.requires c.in_ok-one.ensures.keeps

pub returns-in_err-other-clause-keeps : goal.returns-in_err-other-clause-keeps
returns-in_err-other-clause-keeps c = keeps_more c.in_ok-one.ensures.keeps c.normal_unmasked-2.ensures.keeps

pub returns-clause-is : goal.returns-clause-is
returns-clause-is c =
    forms_same c.normal_unmasked-2.new.pool c.in_ok-one.one c.in_ok-other.other (scope_in c.args.pool.now c.args.scope.now) c.args.a.now c.args.b.now c.same.result c.same.ensures
    (c.in_ok-other.ensures.keeps.shows c.in_ok-one.one c.in_ok-one.ensures.is.number ∙ c.in_ok-one.ensures.is.shows)
    (c.in_ok-other.ensures.is.shows
    ∙ ap (λ (s : Scope). normal_type s (remasked no_masks c.args.b.now)) (scope_kept c.args.scope.now c.requires.known c.in_ok-one.ensures.keeps))

pub returns-clause-keeps : goal.returns-clause-keeps
returns-clause-keeps c = keeps_more c.in_ok-one.ensures.keeps c.in_ok-other.ensures.keeps
