use Rattle.jn_drive.proofs.Wording.{words_unread}
use Rattle.jn_drive.proofs.top.Goals as goal

pub returns-in-Err-Memory-clause-job : goal.returns-in-Err-Memory-clause-job
returns-in-Err-Memory-clause-job g c = words_unread _ _ _ _ c.no_memory.ensures
