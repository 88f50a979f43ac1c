use Rattle.std.proofs.Common.{ℕ, []}
use Rattle.jn_table.specs.Groups.{StandsAt}
use Rattle.jn_table.specs.Level.{IsInheritedAt, key_under}
use Rattle.jn_table.proofs.Gathers.{gains_all, gains_more, gains_none, none_of}
use Rattle.jn_table.proofs.Places.{same_item}
use Rattle.jn_table.proofs.level.add_inherited.Goals as goal

pub loop-up-init : goal.loop-up-init
loop-up-init c = λ keys are. gains_none (IsInheritedAt keys [] c.args.name) _ (λ k a. none_of _ a)

pub loop-up-preserved : goal.loop-up-preserved
loop-up-preserved c = λ keys are.
    gains_more (λ (up k : ℕ). StandsAt keys (key_under up c.args.name) k) c.args.direct.now c.loop-up.up-index _ _
    _ _ _ c.loop-up-test.true (same_item _ _ _ c.loop-up-test.true) (λ k s. s) (λ k s. s)
    (c.loop-up.invariant keys are) (c.in_ok-add_under.ensures keys are)

pub returns : goal.returns
returns c = λ keys are.
    gains_all (λ (up k : ℕ). StandsAt keys (key_under up c.args.name) k)
    c.args.direct.now c.loop-up.up-index _ _ c.loop-up-test.false (c.loop-up.invariant keys are)
