use Rattle.std.proofs.Common.{get_or}
use Rattle.jn_share.proofs.FieldEntries.{any_default}
use Rattle.jn_share.proofs.Walk.{take_one}
use Rattle.jn_layout.proofs.Gathering.{gathers_none, gathers_pass, gathers_take, gathers_all}
use Rattle.jn_layout.specs.Lookups.{MethodPair}
use Rattle.jn_layout.proofs.rows.method_pairs.Goals as goal
use Rattle.jn_layout.proofs.rows.method_pairs.Goals.{in-None, in-Some+in_ok-push-in-Some}

pub loop-name-init : goal.loop-name-init
loop-name-init c = λ p t n R names bodies a o i. gathers_none (MethodPair p n R) c.new-all.result.items c.new-all.ensures.items

pub loop-name-preserved : goal.loop-name-preserved
loop-name-preserved c = elim c.match-method_at.branch [
  | in-None w ↦ λ p t n R names bodies a o i.
      let xs = c.args.list.now in
      let k = c.loop-name.name-index in
      let j = get_or xs k (record { 0 = 0 }) in
      rw w.all-is
      (gathers_pass (MethodPair p n R) _ _ j c.loop-name.all.items c.method_at.result w.in-None.is (take_one xs k j c.loop-name-test.true (any_default xs k (record { 0 = 0 }) j c.loop-name-test.true))
      (c.method_at.ensures p t n R names bodies a o i) (c.loop-name.invariant p t n R names bodies a o i))
  | in-Some+in_ok-push-in-Some w ↦ λ p t n R names bodies a o i.
      let xs = c.args.list.now in
      let k = c.loop-name.name-index in
      let j = get_or xs k (record { 0 = 0 }) in
      rw w.all-is
      (gathers_take (MethodPair p n R) _ _ j c.loop-name.all.items _ w.in-Some.pair c.method_at.result w.in-Some.is
      (take_one xs k j c.loop-name-test.true (any_default xs k (record { 0 = 0 }) j c.loop-name-test.true)) w.in_ok-push-in-Some.ensures.items
      (c.method_at.ensures p t n R names bodies a o i) (c.loop-name.invariant p t n R names bodies a o i))
]

pub returns : goal.returns
returns c = λ p t n R names bodies a o i. gathers_all (MethodPair p n R) c.args.list.now c.loop-name.name-index c.loop-name.all.items c.loop-name-test.false (c.loop-name.invariant p t n R names bodies a o i)
