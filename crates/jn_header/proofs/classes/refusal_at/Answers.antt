use Rattle.std.proofs.Common.{◌∙◌, refl}
use Rattle.jn_header.proofs.ClassFaults.{refusal_is}
use Rattle.jn_header.proofs.classes.refusal_at.Goals as goal

pub returns : goal.returns
returns c = refusal_is c.args.t.now c.args.id c.row.result.now c.in_ok-names.names c.args.fault c.row.ensures (c.in_ok-names.ensures ∙ c.as_slice.ensures) _ refl
