use Rattle.jn_span_laws.proofs.Bodies as bodies
use Rattle.jn_span_laws.proofs.forms_span.Goals as goal

pub returns : goal.returns
returns x = bodies.forms_span
