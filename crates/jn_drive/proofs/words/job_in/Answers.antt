use Rattle.jn_drive.proofs.Ranges.{job_range, out_named}
use Rattle.jn_drive.proofs.words.job_in.Goals as goal

pub returns-in-Some-clause-range : goal.returns-in-Some-clause-range
returns-in-Some-clause-range c = job_range _ _ c.in_ok-words.ensures.ok

pub returns-in-Some-clause-out : goal.returns-in-Some-clause-out
returns-in-Some-clause-out c = λ b. out_named _ _ _ c.in_ok-words.ensures.ok c.in-Some.ensures b

pub returns-in-None-clause-range : goal.returns-in-None-clause-range
returns-in-None-clause-range c = job_range _ _ c.in_ok-words.ensures.ok
