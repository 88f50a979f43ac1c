-- What a reader of the program gives is what reading the field gives, unless memory runs out.
use Rattle.std.specs.Prelude.{◌≡◌, ℕ, Result, Ok, Err}
use Rattle.jn_code.specs.declared.fault.ImageFault.{ImageFault}
use Rattle.jn_code.specs.declared.fault.ImageFault.TheVariants as fault
use Rattle.jn_code.specs.Spells.{fault_of}
use Rattle.jn_code.specs.SpellsFields.{Reading}
use Rattle.jn_code.specs.SpellsFields as spells
use Rattle.jn_imagefile.specs.declared.stop.Stop.{Stop}
use Rattle.jn_imagefile.specs.declared.stop.Stop.TheVariants as stop

abbrev pub Stops : {Y : Type 0} → Stop → Result Y spells.Stop → Type 0
Stops stop.Memory read = Unit {0}
Stops (stop.Short left) read = read ≡ Err (spells.Short left)
Stops stop.Magic read = read ≡ Err spells.Magic
Stops (stop.Bad left kind) read = read ≡ Err (spells.Bad left kind)

-- seen by view
abbrev pub Gives : {X Y : Type 0} → (X → Y) → Result X Stop → Result Y spells.Stop → Type 0
Gives view (Ok x) read = read ≡ Ok (view x)
Gives view (Err e) read = Stops e read

-- the fault of the image for a stop at so many bytes in all
abbrev pub Tells : Stop → ℕ → ImageFault → Type 0
Tells stop.Memory size told = told ≡ fault.Memory
Tells (stop.Short left) size told = told ≡ fault_of size (spells.Short left)
Tells stop.Magic size told = told ≡ fault_of size spells.Magic
Tells (stop.Bad left kind) size told = told ≡ fault_of size (spells.Bad left kind)
