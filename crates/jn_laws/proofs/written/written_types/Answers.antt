use Rattle.jn_laws.proofs.WrittenTypes.{written_types}
use Rattle.jn_laws.proofs.written.written_types.Goals as goal

pub returns : goal.returns
returns c = written_types
