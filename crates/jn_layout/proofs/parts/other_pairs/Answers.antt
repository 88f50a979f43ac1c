use Rattle.std.proofs.Common.{get_or}
use Rattle.std.proofs.lemmas.List.Elements.{Contains-get_or}
use Rattle.jn_share.proofs.FieldEntries.{any_default}
use Rattle.jn_share.proofs.Walk.{take_one}
use Rattle.jn_layout.specs.Parts.{OtherPair}
use Rattle.jn_layout.proofs.Gathering.{gathers_none, gathers_pass, gathers_take, gathers_all}
use Rattle.jn_layout.proofs.parts.other_pairs.Goals as goal
use Rattle.jn_layout.proofs.parts.other_pairs.Goals.{in-None, in-Some+in_ok-push-in-Some}

pub loop-j-init : goal.loop-j-init
loop-j-init c = λ p n f e all R a r. gathers_none (OtherPair p n R) c.new-all.result.items c.new-all.ensures.items

pub loop-j-preserved : goal.loop-j-preserved
loop-j-preserved c = elim c.match-other_at.branch [
  | in-None w ↦ λ p n f e all R a r.
      let xs = c.args.numbers.now in
      let i = c.loop-j.j-index in
      let j = get_or xs i 0 in
      rw w.all-is
      (gathers_pass (OtherPair p n R) _ _ j c.loop-j.all.items c.other_at.result w.in-None.is (take_one xs i j c.loop-j-test.true (any_default xs i 0 j c.loop-j-test.true))
      (c.other_at.ensures p n f e all R a (λ S. r j S (Contains-get_or xs i 0 c.loop-j-test.true))) (c.loop-j.invariant p n f e all R a r))
  | in-Some+in_ok-push-in-Some w ↦ λ p n f e all R a r.
      let xs = c.args.numbers.now in
      let i = c.loop-j.j-index in
      let j = get_or xs i 0 in
      rw w.all-is
      (gathers_take (OtherPair p n R) _ _ j c.loop-j.all.items _ w.in-Some.pair c.other_at.result w.in-Some.is (take_one xs i j c.loop-j-test.true (any_default xs i 0 j c.loop-j-test.true))
      w.in_ok-push-in-Some.ensures.items (c.other_at.ensures p n f e all R a (λ S. r j S (Contains-get_or xs i 0 c.loop-j-test.true))) (c.loop-j.invariant p n f e all R a r))
]

pub returns : goal.returns
returns c = λ p n f e all R a r.
    gathers_all (OtherPair p n R) c.args.numbers.now c.loop-j.j-index c.loop-j.all.items c.loop-j-test.false (c.loop-j.invariant p n f e all R a r)
