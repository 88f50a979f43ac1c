use Rattle.jn_sound_sources.proofs.Sources.{sources_never_stuck}
use Rattle.jn_sound_sources.proofs.sources_never_stuck.Goals as goal

pub returns : goal.returns
returns c = sources_never_stuck
