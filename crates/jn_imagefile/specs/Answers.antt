-- What was returned is what was told, unless memory ran out.
use Rattle.std.specs.Prelude.{◌≡◌, Result, Err}
use Rattle.jn_code.specs.declared.image.Image.{Image}
use Rattle.jn_code.specs.declared.fault.ImageFault.{ImageFault}
use Rattle.jn_code.specs.declared.fault.ImageFault.TheVariants as fault

abbrev pub Answers : Result Image ImageFault → Result Image ImageFault → Type 0
Answers (Err fault.Memory) told = Unit {0}
Answers returned told = returned ≡ told
