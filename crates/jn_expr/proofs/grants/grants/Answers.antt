use Rattle.std.proofs.Common.{◌∙◌, ap, subst}
use Rattle.jn_reach.proofs.Searches.{not_when}
use Rattle.jn_intern.specs.Pools.{scope_in, shown}
use Rattle.jn_intern.proofs.Pools.{keeps_more, scope_kept}
use Rattle.jn_sem.specs.Below.{Below}
use Rattle.jn_sem.specs.NormalFunction.{normal_type}
use Rattle.jn_rules.specs.Questions.{Answers, masks_of}
use Rattle.jn_expr.proofs.Granting.{not_granted, granted}
use Rattle.jn_expr.proofs.Scopes.{scope_stays}
use Rattle.jn_expr.proofs.grants.grants.Goals as goal

pub is_atom-requires : goal.is_atom-requires
is_atom-requires c = scope_stays c.requires.scope c.in_ok-is_below_left.ensures.keeps

pub returns-in_err-is_atom-clause-keeps : goal.returns-in_err-is_atom-clause-keeps
returns-in_err-is_atom-clause-keeps c = keeps_more c.in_ok-is_below_left.ensures.keeps c.is_atom.ensures.keeps

pub returns-then-not-branch-2-clause-is : goal.returns-then-not-branch-2-clause-is
returns-then-not-branch-2-clause-is c = λ p k u f e1 e2 e3.
    not_granted p (scope_in c.args.pool.now c.args.scope.now) (scope_in c.is_below_left.new.pool c.args.scope.now) k u (shown c.args.pool.now c.args.from)
    (scope_kept c.args.scope.now c.requires.scope.known c.in_ok-is_below_left.ensures.keeps) (not_when c.if-not-branch-2.true (c.in_ok-is_atom.ensures.is k.to u e2 e3))

pub returns-then-not-branch-2-clause-keeps : goal.returns-then-not-branch-2-clause-keeps
returns-then-not-branch-2-clause-keeps c = keeps_more c.in_ok-is_below_left.ensures.keeps c.in_ok-is_atom.ensures.keeps

pub returns-clause-is : goal.returns-clause-is
returns-clause-is c = λ p k u f e1 e2 e3.
    let s = scope_in c.args.pool.now c.args.scope.now in
    let t = shown c.args.pool.now c.args.from in
    granted p s (scope_in c.is_below_left.new.pool c.args.scope.now) k u t
    (scope_kept c.args.scope.now c.requires.scope.known c.in_ok-is_below_left.ensures.keeps) c.within.result c.args.pledge.now.from c.masks_of.result c.masks_of-2.result
    (subst (Answers (Below p s t (normal_type s c.args.pledge.now.from))) c.if-not-branch.false (c.in_ok-is_below_left.ensures.below p f)) e1
    ((c.in_ok-is_atom.ensures.is k.to u e2 e3).0 c.if-not-branch-2.false) c.within.ensures (c.masks_of.ensures ∙ ap masks_of e2) (c.masks_of-2.ensures ∙ ap masks_of e3)

pub returns-clause-keeps : goal.returns-clause-keeps
returns-clause-keeps c = keeps_more c.in_ok-is_below_left.ensures.keeps c.in_ok-is_atom.ensures.keeps
