use Rattle.std.proofs.Common.{◌≡◌, drop, nat_eq}
use Rattle.std.specs.List.{find}
use Rattle.jn_code.specs.declared.image.FieldEntry.{FieldEntry}
use Rattle.jn_machine.proofs.entries.slot_of.Given as goal

abbrev pub invariant-loop-entry : goal.invariant-loop-entry
invariant-loop-entry l = find (λ (e : FieldEntry). nat_eq e.selector l.selector) (drop l.entry-index l.entries) ≡ find (λ (e : FieldEntry). nat_eq e.selector l.selector) l.row.fields
