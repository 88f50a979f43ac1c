use Rattle.std.proofs.Common.{◌≡◌, length}
use Rattle.jn_share.specs.Declaring.{Wide}
use Rattle.jn_share.specs.Prepared.{DeclsTo}
use Rattle.jn_share.proofs.prepared.decls_of.Given as goal

abbrev pub invariant-loop-k : goal.invariant-loop-k
invariant-loop-k l = record {
  long : length l.rows.items ≡ l.k;
  wide : Wide l.types (length l.last.items);
  decls : DeclsTo l.t l.types l.k l.rows.items;
}
