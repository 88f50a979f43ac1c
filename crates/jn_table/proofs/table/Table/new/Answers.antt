use Rattle.std.proofs.Common.{◌∙◌, inl}
use Rattle.jn_table.proofs.Orders.{ordered}
use Rattle.jn_table.proofs.Shown.{no_rows}
use Rattle.jn_table.proofs.table.Table.new.Goals as goal

pub returns-clause-table : goal.returns-clause-table
returns-clause-table c named = record {
  named = named;
  texts = c.in_ok-texts.ensures ∙ c.as_slice-2.ensures;
  entries = c.in_ok-entries.ensures;
  order = rw (← c.as_slice.ensures, ← c.deref.ensures.value) c.in_ok-order.ensures;
  rows = no_rows _ _ _ c.new.ensures.items c.new-2.ensures.items;
  asked = inl c.new.ensures.items;
}

pub invariant_of-result-clause-ordered : goal.invariant_of-result-clause-ordered
invariant_of-result-clause-ordered c = ordered _ _ _ (rw c.deref.ensures.value at c.in_ok-order.ensures)
