use Rattle.jn_header.proofs.Heads.{plan_told}
use Rattle.jn_header.proofs.headers.check_types.Goals as goal

pub returns-clause-told : goal.returns-clause-told
returns-clause-told c = plan_told c.args.p.now _ _ c.judge_decls.result c.root-root.ensures c.as_slice.ensures c.judge_decls.ensures.told
