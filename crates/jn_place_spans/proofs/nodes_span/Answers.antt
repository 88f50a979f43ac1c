use Rattle.jn_place_spans.proofs.Nodes.{nodes_span}
use Rattle.jn_place_spans.proofs.nodes_span.Goals as goal

pub returns : goal.returns
returns x = nodes_span
