use Rattle.std.proofs.Common.{◌<◌, length, arith}
use Rattle.jn_closure.proofs.Marking.{AreMarks-more, Adds-new, unmarked_by}
use Rattle.jn_closure.proofs.marks.visit.Goals as goal

pub returns-in_ok-push-clause-marks : goal.returns-in_ok-push-clause-marks
returns-in_ok-push-clause-marks c =
    let within : c.args.node < length c.args.marks.now.items =
    omega (arith, c.requires.within, c.args.marks.now.ok.0) in
    rw c.in_ok-push.ensures.items
    (AreMarks-more _ _ _ within (unmarked_by _ _ _ within c.index.ensures c.if-not-index.true) c.requires.marks)

pub returns-in_ok-push-clause-added : goal.returns-in_ok-push-clause-added
returns-in_ok-push-clause-added c = rw c.in_ok-push.ensures.items (Adds-new _ _)
