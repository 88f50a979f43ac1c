use Rattle.std.proofs.Common.{ℕ, []}
use Rattle.jn_base.specs.declared.tree.Name.{Name}
use Rattle.jn_table.specs.Groups.{StandsAt}
use Rattle.jn_table.specs.Level.{IsWrittenAt, key_under}
use Rattle.jn_table.proofs.Gathers.{gains_all, gains_more, gains_none, none_of}
use Rattle.jn_table.proofs.Places.{same_item}
use Rattle.jn_table.proofs.level.add_written.Goals as goal

pub loop-name-init : goal.loop-name-init
loop-name-init c = λ keys are. gains_none (IsWrittenAt keys c.args.up []) _ (λ k a. none_of _ a)

pub loop-name-preserved : goal.loop-name-preserved
loop-name-preserved c = λ keys are.
    gains_more (λ (D : Name) (k : ℕ). StandsAt keys (key_under c.args.up D) k)
    c.args.written.now c.loop-name.name-index _ _ _ _ _ c.loop-name-test.true
    (same_item _ _ _ c.loop-name-test.true) (λ k s. s) (λ k s. s)
    (c.loop-name.invariant keys are) (c.in_ok-add_under.ensures keys are)

pub returns : goal.returns
returns c = λ keys are.
    gains_all (λ (D : Name) (k : ℕ). StandsAt keys (key_under c.args.up D) k)
    c.args.written.now c.loop-name.name-index _ _ c.loop-name-test.false (c.loop-name.invariant keys are)
