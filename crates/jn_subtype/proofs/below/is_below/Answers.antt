use Rattle.std.proofs.Common.{All, subst, sym}
use Rattle.std.proofs.lemmas.Result.{IfOk-weaker}
use Rattle.jn_base.specs.declared.types.Atom.{Atom as ShownAtom}
use Rattle.jn_base.specs.Fits.{Anchored, TypeFits}
use Rattle.jn_base.specs.Scopes.{Scope}
use Rattle.jn_intern.specs.Pools.{scope_in}
use Rattle.jn_subtype.proofs.Reaching.{all_anchored, class_below}
use Rattle.jn_subtype.proofs.below.is_below.Goals as goal

pub are_reached-requires-clause-anchored : goal.are_reached-requires-clause-anchored
are_reached-requires-clause-anchored c =
    let s : Scope = scope_in c.args.pool.now c.args.scope.now in
    subst (All (λ (x : ShownAtom). Anchored s x.anchor)) (sym c.as_slice.ensures)
    (all_anchored s c.in-Class.xs c.in-Class.m (subst (TypeFits s) c.in-Class.is c.requires.s_fits))

pub returns-else-not-within : goal.returns-else-not-within
returns-else-not-within c =
    IfOk-weaker c.are_reached.result _ _
    (λ r h p filled. class_below c.in-Class.xs c.in-Class-t.ys c.as_slice.result.now c.as_slice-in-Class-t.result.now c.in-Class.m c.in-Class-t.n
    c.in-Class.is c.in-Class-t.is c.as_slice.ensures c.as_slice-in-Class-t.ensures (c.within.ensures.0 c.if-not-within.false) (h p filled))
    c.are_reached.ensures
