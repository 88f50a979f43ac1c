use Rattle.jn_expr.specs.Envs.{parts}
use Rattle.rows_exprs.proofs.Parts.{ready, parts_at}
use Rattle.rows_exprs.proofs.typing.typed_with.Goals as goal

pub header_of-requires : goal.header_of-requires
header_of-requires c = ready c.args.p.now (parts c.args.env.now) c.deref.result.now c.deref.ensures.value c.requires

pub typed_behind-requires-clause-parts : goal.typed_behind-requires-clause-parts
typed_behind-requires-clause-parts c = parts_at c.args.p.now (parts c.args.env.now) c.header_of.new.t c.in-Ok.ensures.kept c.requires
