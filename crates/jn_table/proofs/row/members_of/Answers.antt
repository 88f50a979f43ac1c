use Rattle.std.proofs.Common.{refl, arith, length, get_or}
use Rattle.std.proofs.lemmas.Option.{slice_get_read}
use Rattle.jn_table.proofs.Nears.{members_end, row_push, row_skip}
use Rattle.jn_table.proofs.RowSteps.{members_none}
use Rattle.jn_table.proofs.row.members_of.Goals as goal
use Rattle.jn_table.proofs.row.members_of.Goals.{in-Some+in_ok-push, in_default}

pub loop-number-init : goal.loop-number-init
loop-number-init c = members_none _ _ _ c.new-all.ensures.items

pub loop-number-preserved : goal.loop-number-preserved
loop-number-preserved c =
    let paths = c.args.paths.now in
    let row = c.args.row.now in
    let i = c.loop-number.number-index in
    let at = slice_get_read paths (length paths) (get_or row i 0) c.index-paths-number.result refl
    (c.requires.within i 0 c.loop-number-test.true) c.index-paths-number.is in
    elim c.match-under.branch [
      | in-Some+in_ok-push w ↦
          rw (w.all-is, w.in_ok-push.ensures.items)
          (row_push paths c.args.up.now row c.requires.row i c.index-paths-number.result _ c.loop-number-test.true at
          c.loop-number.invariant _ w.in-Some.ensures.some refl)
      | in_default w ↦
          rw w.all-is
          (row_skip paths c.args.up.now row c.requires.row i c.index-paths-number.result _ c.loop-number-test.true at
          c.loop-number.invariant w.in_default.ensures.none)
    ]

pub returns : goal.returns
returns c =
    members_end c.args.paths.now c.args.up.now c.args.row.now c.requires.row c.loop-number.number-index _
    (omega (arith, c.loop-number-test.false, c.loop-number.auto.number-index-end)) c.requires.within c.loop-number.invariant
