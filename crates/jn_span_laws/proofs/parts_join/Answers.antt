use Rattle.jn_span_laws.proofs.Spanned.{joined, single, deciding_part}
use Rattle.jn_span_laws.proofs.parts_join.Goals as goal

pub returns : goal.returns
returns x = λ i c. record { joined = joined i c; single = single i c; decided = deciding_part i c }
