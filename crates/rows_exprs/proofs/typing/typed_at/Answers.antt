use Rattle.rows_exprs.proofs.typing.typed_at.Goals as goal

pub method_at-requires : goal.method_at-requires
method_at-requires c = c.in-Ok.ensures.once
