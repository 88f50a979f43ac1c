use Rattle.jn_place_laws.proofs.Laws.{contexts_lead_so}
use Rattle.jn_place_laws.proofs.contexts_lead.Goals as goal

pub returns : goal.returns
returns c = contexts_lead_so
