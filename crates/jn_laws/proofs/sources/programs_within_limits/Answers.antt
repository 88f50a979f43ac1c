use Rattle.jn_laws.proofs.PlacesAside.{programs_within_limits}
use Rattle.jn_laws.proofs.sources.programs_within_limits.Goals as goal

pub returns : goal.returns
returns c = programs_within_limits
