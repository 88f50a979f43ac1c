use Rattle.jn_heads.specs.Places.{site_of}
use Rattle.jn_heads.proofs.Parameters.{result_told, told_fits}
use Rattle.jn_heads.proofs.params.result_at.Goals as goal

pub returns-in-Some-clause-told : goal.returns-in-Some-clause-told
returns-in-Some-clause-told c = λ b w.
    result_told c.args.p.now b c.args.at.now c.args.ty.now c.in-Some.ty _ c.type_at.result c.in-Some.is w c.type_at.ensures.told

pub returns-in-Some-clause-fits : goal.returns-in-Some-clause-fits
returns-in-Some-clause-fits c = told_fits c.args.p.now (site_of c.args.at.now) c.in-Some.ty c.type_at.new.pool c.type_at.result c.type_at.ensures.told
