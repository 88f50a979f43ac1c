use Rattle.jn_laws.proofs.WrittenTypes.{written_kinds}
use Rattle.jn_laws.proofs.written.written_kinds.Goals as goal

pub returns : goal.returns
returns c = written_kinds
