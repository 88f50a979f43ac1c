use Rattle.jn_base.proofs.VerdictProofs.{apart_passes, circular_refused, mixed_refused, missing_refused}
use Rattle.jn_base.proofs.examples.table_verdicts.Goals as goal

pub returns : goal.returns
returns c = record {
  passes = apart_passes;
  cycle = circular_refused;
  kinds = mixed_refused;
  unknown_name = missing_refused;
}
