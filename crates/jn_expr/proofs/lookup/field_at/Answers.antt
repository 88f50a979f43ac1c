use Rattle.std.proofs.Common.{reverse, subst, List}
use Rattle.std.specs.Option.{option_copied}
use Rattle.jn_base.specs.declared.tree.Member.{Member}
use Rattle.jn_base.specs.Paths.{fields}
use Rattle.jn_expr.specs.Found.{FindsNamed, field_name}
use Rattle.jn_expr.proofs.Naming.{decl_field}
use Rattle.jn_expr.proofs.lookup.field_at.Goals as goal

pub returns-in-Some : goal.returns-in-Some
returns-in-Some c =
    decl_field c.args.p.now (reverse c.args.path.now.names) c.args.name c.requires c.in-Some.d.now c.in-Some.ensures (option_copied c.field_near.result)
    (subst (λ (ms : List Member). FindsNamed field_name (fields ms) c.args.name (option_copied c.field_near.result)) c.as_slice.ensures c.field_near.ensures)
