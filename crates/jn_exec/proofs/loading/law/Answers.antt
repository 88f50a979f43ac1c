use Rattle.jn_exec.proofs.ImageLaws.{is_found, is_only, front_enough}
use Rattle.jn_exec.proofs.loading.law.Goals as goal

pub returns-clause-found : goal.returns-clause-found
returns-clause-found c = is_found

pub returns-clause-only : goal.returns-clause-only
returns-clause-only c = is_only

pub returns-clause-front : goal.returns-clause-front
returns-clause-front c = front_enough
