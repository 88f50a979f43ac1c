use Rattle.jn_laws.proofs.ByViews.{this_rooted}
use Rattle.jn_laws.proofs.views.this_rooted.Goals as goal

pub returns : goal.returns
returns c = this_rooted
