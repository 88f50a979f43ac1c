use Rattle.std.proofs.Common.{get_or}
use Rattle.jn_share.proofs.FieldEntries.{any_default}
use Rattle.jn_share.proofs.Walk.{take_one}
use Rattle.jn_layout.proofs.Gathering.{gathers_none, gathers_pass, gathers_take, gathers_all}
use Rattle.jn_layout.specs.Lookups.{FieldPair}
use Rattle.jn_layout.proofs.RowProof.{small_none, small_more}
use Rattle.jn_layout.proofs.rows.field_pairs.Goals as goal
use Rattle.jn_layout.proofs.rows.field_pairs.Goals.{in-None, in-Some+in_ok-push-in-Some}

pub loop-name-init : goal.loop-name-init
loop-name-init c = record {
  is = λ p t n R names a o i. gathers_none (FieldPair p n c.args.s.now c.args.id R) c.new-all.result.items c.new-all.ensures.items;
  small = small_none c.new-all.result.items c.new-all.ensures.items;
}

pub loop-name-preserved : goal.loop-name-preserved
loop-name-preserved c = elim c.match-field_at.branch [
  | in-None w ↦
      let xs = c.args.list.now in
      let k = c.loop-name.name-index in
      let j = get_or xs k (record { 0 = 0 }) in
      rw w.all-is
      (record {
        is = λ p t n R names a o i.
            gathers_pass (FieldPair p n c.args.s.now c.args.id R) _ _ j c.loop-name.all.items c.field_at.result w.in-None.is
            (take_one xs k j c.loop-name-test.true (any_default xs k (record { 0 = 0 }) j c.loop-name-test.true)) (c.field_at.ensures.is p t n R names a o i) (c.loop-name.invariant.is p t n R names a o i);
        small = c.loop-name.invariant.small;
      })
  | in-Some+in_ok-push-in-Some w ↦
      let xs = c.args.list.now in
      let k = c.loop-name.name-index in
      let j = get_or xs k (record { 0 = 0 }) in
      rw w.all-is
      (record {
        is = λ p t n R names a o i.
            gathers_take (FieldPair p n c.args.s.now c.args.id R) _ _ j c.loop-name.all.items _ w.in-Some.pair c.field_at.result w.in-Some.is
            (take_one xs k j c.loop-name-test.true (any_default xs k (record { 0 = 0 }) j c.loop-name-test.true)) w.in_ok-push-in-Some.ensures.items
            (c.field_at.ensures.is p t n R names a o i) (c.loop-name.invariant.is p t n R names a o i);
        small = small_more c.loop-name.all.items _ w.in-Some.pair c.field_at.result w.in-Some.is c.field_at.ensures.small w.in_ok-push-in-Some.ensures.items c.loop-name.invariant.small;
      })
]

pub returns-clause-is : goal.returns-clause-is
returns-clause-is c = λ p t n R names a o i.
    gathers_all (FieldPair p n c.args.s.now c.args.id R) c.args.list.now c.loop-name.name-index c.loop-name.all.items c.loop-name-test.false (c.loop-name.invariant.is p t n R names a o i)

pub returns-clause-small : goal.returns-clause-small
returns-clause-small c = c.loop-name.invariant.small
