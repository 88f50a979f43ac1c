-- Why an image is refused.
use Rattle.std.specs.Prelude.{◌≡◌, ◌<◌, Some, length}
use Rattle.jn_code.specs.declared.image.Code.{Code}
use Rattle.jn_code.specs.declared.image.Image.{Image}
use Rattle.jn_code.specs.declared.fault.ImageFault.{ImageFault}
use Rattle.jn_code.specs.declared.fault.ImageFault.TheVariants as fault
use Rattle.jn_code.specs.Valid.{first_fault}

-- For want of memory, or for its first fault.
abbrev pub IsCause : Image → ImageFault → Type 0
IsCause i fault.Memory = Unit {0}
IsCause i f = first_fault i ≡ Some f

-- The places of its instructions can be told.
abbrev pub IsShort : Code → Type 0
IsShort c = length c.instrs < 4294967296
