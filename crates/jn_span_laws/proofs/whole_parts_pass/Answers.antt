use Rattle.jn_span_laws.proofs.Passed.{spanned_passes}
use Rattle.jn_span_laws.proofs.whole_parts_pass.Goals as goal

pub returns : goal.returns
returns x = λ i c ls x xs e sp closed. spanned_passes i c ls x xs sp closed e
