-- The valid image that the bytes of a file spell, or the first thing that is wrong with them.
use Rattle.std.specs.Prelude.{◌≡◌, ℕ, List, Option, Some, None, Result, Ok, Err, true}
use Rattle.jn_code.specs.declared.image.Image.{Image}
use Rattle.jn_code.specs.declared.fault.ImageFault.{ImageFault}
use Rattle.jn_code.specs.declared.fault.ImageFault.TheVariants as fault
use Rattle.jn_code.specs.Spells.{image_of}
use Rattle.jn_code.specs.Valid.{first_fault}
use Rattle.jn_machine.specs.Machines.{MachineState}

-- the image, where it has no fault
abbrev pub unless_fault : Image → Option ImageFault → Result Image ImageFault
unless_fault i None = Ok i
unless_fault i (Some f) = Err f

abbrev pub if_valid : Result Image ImageFault → Result Image ImageFault
if_valid (Ok i) = unless_fault i (first_fault i)
if_valid (Err f) = Err f

-- The bytes are wrong, or the image that they spell is; else it is that image. Bytes that stop in a field are Short, and
-- an image whose first code takes an operand that is not there is BadCode.
unfoldable pub valid_image_of : List ℕ → Result Image ImageFault
valid_image_of bytes = if_valid (image_of bytes)

-- A fresh machine for the valid image that the bytes have, with these bounds.
pub record IsMachineFor (bytes : List ℕ) (arena depth : ℕ) (m : MachineState) : Type 0 where
  pub image : valid_image_of bytes ≡ Ok m.image
  pub arena_is : m.arena ≡ arena
  pub depth_is : m.depth ≡ depth
  pub fresh : m.fresh ≡ true

-- It is the first fault, or want of memory.
abbrev pub IsFaultOf : List ℕ → ImageFault → Type 0
IsFaultOf bytes fault.Memory = Unit {0}
IsFaultOf bytes f = valid_image_of bytes ≡ Err f
