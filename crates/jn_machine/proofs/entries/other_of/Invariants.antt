use Rattle.std.proofs.Common.{◌≡◌, drop, nat_eq}
use Rattle.std.specs.List.{find}
use Rattle.jn_code.specs.declared.image.OtherEntry.{OtherEntry}
use Rattle.jn_machine.proofs.entries.other_of.Given as goal

abbrev pub invariant-loop-entry : goal.invariant-loop-entry
invariant-loop-entry l = find (λ (e : OtherEntry). nat_eq e.family l.family) (drop l.entry-index l.entries) ≡ find (λ (e : OtherEntry). nat_eq e.family l.family) l.row.others
