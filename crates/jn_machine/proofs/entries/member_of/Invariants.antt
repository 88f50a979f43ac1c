use Rattle.std.proofs.Common.{◌≡◌, drop, nat_eq}
use Rattle.std.specs.List.{find}
use Rattle.jn_code.specs.declared.image.MemberEntry.{MemberEntry}
use Rattle.jn_machine.proofs.entries.member_of.Given as goal

abbrev pub invariant-loop-entry : goal.invariant-loop-entry
invariant-loop-entry l = find (λ (e : MemberEntry). nat_eq e.name l.name) (drop l.entry-index l.entries) ≡ find (λ (e : MemberEntry). nat_eq e.name l.name) l.row.members
