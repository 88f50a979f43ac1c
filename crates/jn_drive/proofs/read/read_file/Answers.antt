use Rattle.jn_drive.proofs.Reading.{file_read}
use Rattle.jn_drive.proofs.read.read_file.Goals as goal

pub returns-clause-read : goal.returns-clause-read
returns-clause-read g c = file_read _ _ _ _ _ _ _ _ _ c.in_ok-begin.ensures.rest c.in_ok-begin.ensures.cause.kept c.read_rest.ensures.read
