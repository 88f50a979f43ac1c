-- What the judgement of a program gives is what a run of it asks.
use Rattle.std.proofs.Common.{◌≡◌, []}
use Rattle.jn_base.specs.declared.tree.Program.{Program}
use Rattle.jn_base.specs.Duplicates.{duplicates}
use Rattle.jn_base.specs.ProgramNames.{IsNamed}
use Rattle.jn_base.specs.WithinLimits.{IsWithinLimits}
use Rattle.jn_table.specs.declared.table.Table.{Table}
use Rattle.jn_sem.specs.LawsOfSlots.{OnePlaceEach}
use Rattle.jn_sem.proofs.FieldAnchors.{fields_pass}
use Rattle.jn_laws.proofs.PlacesAside.{programs_within_limits}
use Rattle.jn_laws.proofs.StoredValues.{same_path}
use Rattle.jn_rules.specs.Members.{bad_field}
use Rattle.jn_rules.specs.Verdict.{MembersPass, HeadersPass}
use Rattle.jn_header.specs.declared.judge.Headers.{Headers}
use Rattle.jn_header.specs.Judged as judged
use Rattle.jn_meaning.specs.World as world

-- the program of a source has its own names
pub named : (p : Program) → IsWithinLimits p → IsNamed p
named p w = (programs_within_limits p w).named

one_place : (p : Program) → MembersPass p → OnePlaceEach p
one_place p ok V Q R f c d e = same_path Q R (λ apart. ok.members V (record {
  class = c;
  bad = bad_field f (record { one = Q; other = R; at_one = d; at_other = e; apart = apart });
}))

pub parts_stand : (p : Program) → IsWithinLimits p → duplicates p ≡ [] → HeadersPass p → (t : Table) (h : Headers) → judged.AreParts p t h
    → world.AreParts p t h.masks.items h.members h.groups h.slots
parts_stand p limits once pass t h a =
    let m : MembersPass p = pass.limits.members in
    record {
      filled = a.filled;
      declarations = record { once = once; table = m.types.table };
      passes = fields_pass p (one_place p m) (programs_within_limits p limits).brackets;
      masks = a.masks;
      members = a.members;
      groups = a.groups;
      slots = a.slots;
    }
