use Rattle.jn_steps.proofs.Reports.{cut, reports_run}
use Rattle.jn_steps.specs.Reports.{OneOf}
use Rattle.jn_steps.proofs.law.reports_stop_earlier.Goals as goal

pub returns-clause-earlier : goal.returns-clause-earlier
returns-clause-earlier g c from to = cut (OneOf from to)

pub returns-clause-run : goal.returns-clause-run
returns-clause-run g c = reports_run
