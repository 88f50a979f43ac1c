use Rattle.jn_reach.proofs.Searches.{not_when}
use Rattle.jn_table.proofs.Gathers.{part_none, part_more, part_skipped, part_all}
use Rattle.jn_table.proofs.gather.add_part.Goals as goal
use Rattle.jn_table.proofs.gather.add_part.Goals.{then-is_name+in_ok-add_names, else-is_name}

pub loop-number-init : goal.loop-number-init
loop-number-init c = part_none _ _ _ _

pub loop-number-preserved : goal.loop-number-preserved
loop-number-preserved c = elim c.if-is_name.branch [
  | then-is_name+in_ok-add_names w ↦
      rw w.all-is
      (part_more _ _ _ _ _ _ c.index-entries-number.result _ _ _ c.loop-number-test.true
      (c.requires _ _ c.loop-number-test.true) c.index-entries-number.is
      (c.is_name.ensures.0 w.if-is_name.true) c.loop-number.invariant
      (rw w.names_of.ensures at w.in_ok-add_names.ensures))
  | else-is_name w ↦
      rw w.all-is
      (part_skipped _ _ _ _ _ _ c.index-entries-number.result _ _ c.loop-number-test.true
      (c.requires _ _ c.loop-number-test.true) c.index-entries-number.is
      (not_when w.if-is_name.false c.is_name.ensures) c.loop-number.invariant)
]

pub returns : goal.returns
returns c = part_all _ _ _ _ _ _ _ c.loop-number-test.false c.loop-number.invariant
