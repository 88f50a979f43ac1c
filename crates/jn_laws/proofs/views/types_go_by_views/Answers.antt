use Rattle.jn_laws.proofs.ByViews.{types_go_by_views}
use Rattle.jn_laws.proofs.views.types_go_by_views.Goals as goal

pub returns : goal.returns
returns c = types_go_by_views
