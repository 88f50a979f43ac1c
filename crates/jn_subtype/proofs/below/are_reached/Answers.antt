use Rattle.std.proofs.Common.{◌≡◌, Contains, List, map, refl, sym, subst, arith, take, take_all}
use Rattle.std.proofs.lemmas.Bool.{false≢true}
use Rattle.jn_reach.proofs.Searches.{not_when}
use Rattle.jn_base.specs.declared.types.Atom.{Atom as ShownAtom}
use Rattle.jn_base.specs.Atoms.{atom_of}
use Rattle.jn_base.specs.Scopes.{Scope}
use Rattle.jn_intern.specs.Pools.{scope_in}
use Rattle.jn_sem.specs.Below.{ReachedFrom}
use Rattle.jn_subtype.proofs.Reaching.{each_more, each_reached, one_reached}
use Rattle.jn_subtype.proofs.below.are_reached.Goals as goal

pub returns-then-not-branch : goal.returns-then-not-branch
returns-then-not-branch c p filled =
    let in_ys : Contains c.args.ys.now c.y-item.result = (c.loop-y.y-index, c.loop-y-test.true, sym c.y-item.is) in (
      λ h. absurd (false≢true h),
      λ h. absurd (not_when c.if-not-branch.true (c.in_ok-is_reached.ensures p filled) (one_reached c.args.ys.now c.y-item.result in_ys h)),
    )

pub loop-y-preserved : goal.loop-y-preserved
loop-y-preserved c p filled =
    let s : Scope = scope_in c.args.pool.now c.args.scope.now in
    each_more (λ (y : ShownAtom). ReachedFrom p s (map atom_of c.args.xs.now) (atom_of y)) c.args.ys.now c.loop-y.y-index c.y-item.result
    c.loop-y-test.true c.y-item.is (c.loop-y.invariant p filled) ((c.in_ok-is_reached.ensures p filled).0 c.if-not-branch.false)

pub returns : goal.returns
returns c p filled =
    let all : take c.loop-y.y-index c.args.ys.now ≡ c.args.ys.now =
    take_all c.loop-y.y-index c.args.ys.now (omega (arith, c.loop-y-test.false)) in (
      λ _. each_reached c.args.ys.now
          (λ y m. c.loop-y.invariant p filled y (subst (λ (ys : List ShownAtom). Contains ys y) (sym all) m)),
      λ _. refl,
    )
