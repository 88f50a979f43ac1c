use Rattle.jn_base.proofs.ConflictProof.{joins, joins_inside, class, conflict, settled_by_heir}
use Rattle.jn_base.proofs.examples.conflict.Goals as goal

pub returns : goal.returns
returns c = record {
  joins = joins;
  joins_inside = joins_inside;
  class = class;
  conflict = conflict;
  settled_by_heir = settled_by_heir;
}
