use Rattle.std.proofs.Common.{subst, reverse, List}
use Rattle.std.specs.Option.{option_copied}
use Rattle.jn_base.specs.declared.tree.Member.{Member}
use Rattle.jn_base.specs.Paths.{fields}
use Rattle.jn_lower.specs.Told.{Tells, IsFieldNamed}
use Rattle.jn_lower.proofs.Named.{field_in_decl}
use Rattle.jn_lower.proofs.members.field_at.Goals as goal

pub returns-in-Some : goal.returns-in-Some
returns-in-Some c =
    field_in_decl c.args.p.now c.requires (reverse c.args.path.now.names) c.in-Some.decl.now c.args.f (option_copied c.field_named.result)
    c.in-Some.ensures
    (subst (λ (ms : List Member). Tells (IsFieldNamed (fields ms) c.args.f) (option_copied c.field_named.result)) c.as_slice.ensures
    c.field_named.ensures)
