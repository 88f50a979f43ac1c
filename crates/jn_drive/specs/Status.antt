-- The numbers of the statuses.
use Rattle.std.specs.Prelude.{ℕ}
use Rattle.jn_drive.specs.declared.status.Status.{Status}
use Rattle.jn_drive.specs.declared.status.Status.TheVariants as statuses

abbrev pub number_of : Status → ℕ
number_of statuses.Done = 0
number_of statuses.Refused = 1
number_of statuses.Usage = 2
number_of statuses.Null = 3
number_of statuses.Zero = 4
number_of statuses.Arena = 5
number_of statuses.Depth = 6
number_of statuses.Steps = 7
number_of statuses.BadImage = 8
number_of statuses.ReadFault = 9
number_of statuses.WriteFault = 10
number_of statuses.Memory = 11
