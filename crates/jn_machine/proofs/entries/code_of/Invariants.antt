use Rattle.std.proofs.Common.{◌≡◌, drop, nat_eq}
use Rattle.std.specs.List.{find}
use Rattle.jn_code.specs.declared.image.MethodEntry.{MethodEntry}
use Rattle.jn_machine.proofs.entries.code_of.Given as goal

abbrev pub invariant-loop-entry : goal.invariant-loop-entry
invariant-loop-entry l = find (λ (e : MethodEntry). nat_eq e.selector l.selector) (drop l.entry-index l.entries) ≡ find (λ (e : MethodEntry). nat_eq e.selector l.selector) l.row.methods
