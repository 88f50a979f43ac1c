use Rattle.jn_heads.specs.declared.params.Header.{Header}
use Rattle.jn_heads.specs.Params.{header_in}
use Rattle.jn_header.proofs.Heads.{method_refused, method_told}
use Rattle.jn_header.proofs.headers.judge_method.Goals as goal

pub returns-in-Err-clause-told : goal.returns-in-Err-clause-told
returns-in-Err-clause-told c = method_refused c.args.p.now c.args.class.now c.args.m.now Header (header_in c.header_of.new.pool) c.in-Err.fault c.in-Err.ensures.told

pub returns-clause-told : goal.returns-clause-told
returns-clause-told c =
    method_told c.args.p.now c.args.class.now c.args.m.now (header_in c.header_of.new.pool c.in-Ok.field-0) c.judge_constraints.result _ c.as_slice.ensures c.in-Ok.ensures.told
    c.judge_constraints.ensures.told
