use Rattle.jn_sources.proofs.Ascending.{in_source_order}
use Rattle.jn_sources.proofs.places_ascend.Goals as goal

pub returns : goal.returns
returns c p bytes s = in_source_order p bytes s
