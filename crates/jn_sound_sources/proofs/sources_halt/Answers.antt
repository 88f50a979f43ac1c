use Rattle.jn_sound_sources.proofs.Sources.{sources_halt}
use Rattle.jn_sound_sources.proofs.sources_halt.Goals as goal

pub returns : goal.returns
returns c = sources_halt
