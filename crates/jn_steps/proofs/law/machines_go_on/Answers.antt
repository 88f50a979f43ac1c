use Rattle.jn_steps.proofs.Machines.{machine_goes_on}
use Rattle.jn_steps.proofs.law.machines_go_on.Goals as goal

pub returns : goal.returns
returns g c = machine_goes_on
