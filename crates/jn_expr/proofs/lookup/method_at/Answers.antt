use Rattle.std.proofs.Common.{reverse, subst, List}
use Rattle.std.specs.Option.{option_copied}
use Rattle.jn_base.specs.declared.tree.Member.{Member}
use Rattle.jn_base.specs.Paths.{methods}
use Rattle.jn_expr.specs.Found.{FindsNamed, method_name}
use Rattle.jn_expr.proofs.Naming.{decl_method}
use Rattle.jn_expr.proofs.lookup.method_at.Goals as goal

pub returns-in-Some : goal.returns-in-Some
returns-in-Some c =
    decl_method c.args.p.now (reverse c.args.path.now.names) c.args.name c.requires c.in-Some.d.now c.in-Some.ensures (option_copied c.method_near.result)
    (subst (λ (ms : List Member). FindsNamed method_name (methods ms) c.args.name (option_copied c.method_near.result)) c.as_slice.ensures c.method_near.ensures)
