use Rattle.jn_code.proofs.Safe.{never_stuck}
use Rattle.jn_drive.proofs.Ending.{end_told}
use Rattle.jn_drive.proofs.exec.run_and_tell.Goals as goal

pub returns : goal.returns
returns g c =
    end_told _ c.run-end.result _ _ _ _ c.tell_end.result (never_stuck c.args.machine.image c.requires.valid c.args.machine.arena c.args.machine.depth c.args.steps c.requires.arena) c.run-end.ensures.ended c.run-end.ensures.counts c.tell_end.ensures
