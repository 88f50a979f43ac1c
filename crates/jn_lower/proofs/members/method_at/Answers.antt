use Rattle.std.proofs.Common.{subst, reverse, List}
use Rattle.std.specs.Option.{option_copied}
use Rattle.jn_base.specs.declared.tree.Member.{Member}
use Rattle.jn_base.specs.Paths.{methods}
use Rattle.jn_lower.specs.Told.{Tells, IsMethodNamed}
use Rattle.jn_lower.proofs.Named.{in_decl}
use Rattle.jn_lower.proofs.members.method_at.Goals as goal

pub returns-in-Some : goal.returns-in-Some
returns-in-Some c =
    in_decl c.args.p.now c.requires (reverse c.args.path.now.names) c.in-Some.decl.now c.args.m (option_copied c.method_named.result)
    c.in-Some.ensures
    (subst (λ (ms : List Member). Tells (IsMethodNamed (methods ms) c.args.m) (option_copied c.method_named.result)) c.as_slice.ensures
    c.method_named.ensures)
