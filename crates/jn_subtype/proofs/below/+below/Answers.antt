use Rattle.std.proofs.Common.{◌≡◌, ◌∙◌, Contains, List, refl, sym, subst, arith, take, take_all}
use Rattle.std.proofs.lemmas.Bool.{false≢true}
use Rattle.jn_base.specs.Atoms.{Atom}
use Rattle.jn_sem.proofs.Searches.{turn_chain}
use Rattle.jn_subtype.proofs.Reaching.{ends_here, ends_nowhere}
use Rattle.jn_subtype.proofs.below.+below.Goals as goal

pub returns-then-branch : goal.returns-then-branch
returns-then-branch t c p filled = (λ _. ends_here ((c.in_ok-ends.ensures p filled).0 c.if-branch.true), λ _. refl)

pub returns-then-branch-2 : goal.returns-then-branch-2
returns-then-branch-2 t c p filled =
    let in_all : Contains c.in_ok-all.all.items c.t-item.result =
    subst (λ (xs : List Atom). Contains xs c.t-item.result) c.as_slice-t-items.ensures.value
    (c.loop-t.t-index, c.loop-t-test.true, sym c.t-item.is) in
    let turn = (c.in_ok-all.ensures.exact p filled c.t-item.result).0 in_all in
    (λ _. turn_chain turn ((c.in_ok-below.ensures p filled).0 c.if-branch-2.true), λ _. refl)

pub returns : goal.returns
returns t c p filled =
    let all : take c.loop-t.t-index c.as_slice-t-items.result.now ≡ c.in_ok-all.all.items =
    take_all c.loop-t.t-index c.as_slice-t-items.result.now (omega (arith, c.loop-t-test.false)) ∙ c.as_slice-t-items.ensures.value in (
      λ h. absurd (false≢true h),
      λ h. absurd (ends_nowhere (λ e. false≢true (sym c.if-branch.false ∙ (c.in_ok-ends.ensures p filled).1 e))
          (λ u m r. c.loop-t.invariant p filled u (subst (λ (xs : List Atom). Contains xs u) (sym all) ((c.in_ok-all.ensures.exact p filled u).1 m)) r) h),
    )
