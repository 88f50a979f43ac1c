use Rattle.std.proofs.Common.{◌≡◌, Contains, List, map, refl, sym, subst, arith, take, take_all}
use Rattle.std.proofs.lemmas.Bool.{false≢true}
use Rattle.jn_reach.specs.Chain.{Chain}
use Rattle.jn_base.specs.declared.types.Atom.{Atom as ShownAtom}
use Rattle.jn_base.specs.Atoms.{Atom, atom_of}
use Rattle.jn_base.specs.Scopes.{Scope}
use Rattle.jn_intern.specs.Pools.{scope_in}
use Rattle.jn_sem.specs.Widening.{Widens}
use Rattle.jn_sem.specs.Below.{ReachedFrom}
use Rattle.jn_subtype.proofs.Reaching.{reached_by, reached_not}
use Rattle.jn_subtype.proofs.below.is_reached.Goals as goal

pub returns-then-branch : goal.returns-then-branch
returns-then-branch c p filled =
    let s : Scope = scope_in c.args.pool.now c.args.scope.now in
    let found : Chain (Widens p s) c.in_ok-start.start c.in_ok-end.end = (c.in_ok-below.ensures p filled).0 c.if-branch.true in
    let from : Chain (Widens p s) (atom_of c.x-item.result) c.in_ok-end.end =
    subst (λ (x : Atom). Chain (Widens p s) x c.in_ok-end.end) c.in_ok-start.ensures found in
    let in_xs : Contains c.args.xs.now c.x-item.result = (c.loop-x.x-index, c.loop-x-test.true, sym c.x-item.is) in
    let reached = reached_by c.args.xs.now c.x-item.result in_xs from in
    (λ _. subst (ReachedFrom p s (map atom_of c.args.xs.now)) c.in_ok-end.ensures reached, λ _. refl)

pub returns : goal.returns
returns c p filled =
    let all : take c.loop-x.x-index c.args.xs.now ≡ c.args.xs.now =
    take_all c.loop-x.x-index c.args.xs.now (omega (arith, c.loop-x-test.false)) in (
      λ h. absurd (false≢true h),
      λ h. absurd (reached_not c.args.xs.now
          (λ x m r. c.loop-x.invariant p filled x (subst (λ (xs : List ShownAtom). Contains xs x) (sym all) m) r) h),
    )
