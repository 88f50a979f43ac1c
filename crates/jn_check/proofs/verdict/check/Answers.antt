use Rattle.std.specs.Prelude.{Err}
use Rattle.jn_check.proofs.Verdicts.{names_told, verdict_told, verdict_only, verdict_parts}
use Rattle.jn_check.proofs.verdict.check.Goals as goal

pub returns-in-Err-clause-told : goal.returns-in-Err-clause-told
returns-in-Err-clause-told c = verdict_told c.args.p.now (Err c.in-Err.fault) (names_told c.args.p.now c.in-Err.fault c.in-Err.ensures.told)

pub returns-in-Err-clause-only : goal.returns-in-Err-clause-only
returns-in-Err-clause-only c = verdict_only c.args.p.now c.requires (Err c.in-Err.fault) (names_told c.args.p.now c.in-Err.fault c.in-Err.ensures.told)

pub returns-in-Ok-clause-told : goal.returns-in-Ok-clause-told
returns-in-Ok-clause-told c = verdict_told c.args.p.now c.behind_names.result c.behind_names.ensures

pub returns-in-Ok-clause-only : goal.returns-in-Ok-clause-only
returns-in-Ok-clause-only c = verdict_only c.args.p.now c.requires c.behind_names.result c.behind_names.ensures

pub returns-in-Ok-clause-parts : goal.returns-in-Ok-clause-parts
returns-in-Ok-clause-parts c = verdict_parts c.args.p.now c.behind_names.result c.behind_names.ensures
