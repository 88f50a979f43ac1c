use Rattle.std.proofs.Common.{◌∙◌, sym}
use Rattle.jn_jobs.proofs.Parsed.{all_texts, found_is, refused_is}
use Rattle.jn_jobs.proofs.command.matches_of.Goals as goal

pub returns-in-Ok-clause-ok : goal.returns-in-Ok-clause-ok
returns-in-Ok-clause-ok c =
    found_is _ _ _ c.in_ok-command.ensures (all_texts c.args.words.now) c.in-Ok.ensures.matches c.in-Ok.ensures.kinds

pub returns-in-Err-clause-usage : goal.returns-in-Err-clause-usage
returns-in-Err-clause-usage c = λ usage.
    refused_is _ _ c.in-Err.error c.in_ok-command.ensures (all_texts c.args.words.now) c.in-Err.ensures.kinds (λ memory. let other = sym usage ∙ c.fault.ensures.memory (c.kind.ensures ∙ memory) in cc)
