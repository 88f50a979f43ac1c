use Rattle.std.proofs.Common.{◌≡◌, ◌<◌, List, ℕ, length, subst, sym, ap, ◌∙◌}
use Rattle.jn_reach.proofs.Searches.{not_when}
use Rattle.jn_share.specs.Refining.{Grows, Refines, RefinesTo}
use Rattle.jn_share.proofs.Growing.{slack_falls, starts_keep, class_row}
use Rattle.jn_share.proofs.Steps.{step_keeps, step_stable}
use Rattle.jn_share.proofs.refining.settle.Goals as goal

pub steps-init : goal.steps-init
steps-init c =
    let e : c.deref.result.now ≡ c.in_ok-parts.parts.items = c.deref.ensures.value in
    let next = c.in_ok-next.next.items in
    record {
      whole = c.in_ok-parts.ensures.long;
      low = c.in_ok-parts.ensures.low;
      next_long = c.in_ok-next.ensures.long ∙ ap (λ (xs : List ℕ). length xs) e;
      next_low = c.in_ok-next.ensures.low;
      grows = subst (λ (xs : List ℕ). Grows xs next) e c.in_ok-next.ensures.grows;
      keeps = λ p asked ready. starts_keep p c.args.t.now c.args.g.now c.in_ok-parts.parts.items asked.filled asked.groups c.in_ok-parts.ensures.is;
      refines = λ p asked ready. subst (λ (xs : List ℕ). RefinesTo p c.args.t.now xs next (length xs)) e (c.in_ok-next.ensures.refines p asked ready);
    }

pub steps-smaller : goal.steps-smaller
steps-smaller c =
    let i = c.steps.invariant in
    slack_falls c.steps.parts.items c.steps.next.items i.next_long i.next_low i.grows
    (λ q. not_when c.steps-test.true c.same_numbers.ensures (c.deref-in-steps.ensures.value ∙ (q ∙ sym c.deref-in-steps-2.ensures.value)))

pub steps-preserved : goal.steps-preserved
steps-preserved c =
    let i = c.steps.invariant in
    let e : c.deref-in-steps-3.result.now ≡ c.steps.next.items = c.deref-in-steps-3.ensures.value in
    let next = c.in_ok-next-2.next.items in
    record {
      whole = i.next_long ∙ i.whole;
      low = i.next_low;
      next_long = c.in_ok-next-2.ensures.long ∙ ap (λ (xs : List ℕ). length xs) e;
      next_low = c.in_ok-next-2.ensures.low;
      grows = subst (λ (xs : List ℕ). Grows xs next) e c.in_ok-next-2.ensures.grows;
      keeps = λ p asked ready. step_keeps p c.args.t.now asked.filled asked.passes c.steps.parts.items c.steps.next.items
          (λ k V at one. i.refines p asked ready k V (subst (λ (n : ℕ). k < n) (sym i.whole) (class_row p c.args.t.now c.args.g.now asked.groups k V at one)) at one)
          (i.keeps p asked ready);
      refines = λ p asked ready. subst (λ (xs : List ℕ). RefinesTo p c.args.t.now xs next (length xs)) e (c.in_ok-next-2.ensures.refines p asked ready);
    }

pub returns : goal.returns
returns c = λ p asked ready.
    let i = c.steps.invariant in
    let same : c.steps.parts.items ≡ c.steps.next.items =
    sym c.deref-in-steps.ensures.value ∙ (c.same_numbers.ensures.0 c.steps-test.false ∙ c.deref-in-steps-2.ensures.value) in
    record {
      keeps = i.keeps p asked ready;
      stable = step_stable p c.args.t.now asked.filled asked.passes c.steps.parts.items
          (λ k V at one. subst (λ (xs : List ℕ). Refines p c.args.t.now.known.items c.steps.parts.items xs k V) (sym same)
          (i.refines p asked ready k V (subst (λ (n : ℕ). k < n) (sym i.whole) (class_row p c.args.t.now c.args.g.now asked.groups k V at one)) at one));
    }
