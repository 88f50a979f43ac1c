use Rattle.std.proofs.Common.{◌≡◌, length, nat_eq}
use Rattle.indexmap.specs.IndexMap.{get}
use Rattle.jn_base.specs.declared.tree.Program.{Program}
use Rattle.jn_table.specs.Tables.{IsTableOf}
use Rattle.jn_names.specs.Listed.{AreListed, method_keys, field_keys}
use Rattle.jn_names.proofs.MemberSays.{RowsTo}
use Rattle.jn_names.proofs.members.Members.build.Given as goal

abbrev pub invariant-loop-k : goal.invariant-loop-k
invariant-loop-k l = record {
  long : length l.rows.items ≡ l.k;
  rows : (p : Program) → IsTableOf p l.t → RowsTo p l.t.known.items l.rows.items l.k;
  methods : AreListed method_keys l.rows.items (get nat_eq l.by_method);
  fields : AreListed field_keys l.rows.items (get nat_eq l.by_field);
}
