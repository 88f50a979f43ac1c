use Rattle.jn_link.proofs.CountLaws.{verdict_grants_rows}
use Rattle.jn_link.proofs.law.verdict_grants_rows.Goals as goal

pub returns : goal.returns
returns c = verdict_grants_rows
