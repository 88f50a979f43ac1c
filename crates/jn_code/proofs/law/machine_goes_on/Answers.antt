use Rattle.jn_steps.proofs.Machines.{machine_goes_on}
use Rattle.jn_code.specs.Machine.{rules}
use Rattle.jn_code.proofs.law.machine_goes_on.Goals as goal

pub returns : goal.returns
returns c i capacity depth = machine_goes_on (rules i capacity) depth
