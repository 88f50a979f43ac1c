use Rattle.std.proofs.Common.{◌≡◌, drop, refl}
use Rattle.jn_base.specs.declared.tree.Field.{Field}
use Rattle.jn_base.specs.Paths.{fields}
use Rattle.jn_lower.proofs.Named.{Left, fields_behind}
use Rattle.jn_lower.proofs.members.field_named.Given as goal

abbrev pub invariant-loop-member : goal.invariant-loop-member
invariant-loop-member l = Left fields fields_behind refl (λ (x : Field). x.name.name ≡ l.fn.f) l.members (drop l.member-index l.members)
