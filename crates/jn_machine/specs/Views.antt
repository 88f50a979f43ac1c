-- References, as the definition of the machine has them.
use Rattle.jn_code.specs.Machine.{Ref}
use Rattle.jn_machine.specs.declared.numbers.Reference.{Reference}

abbrev pub ref_of : Reference → Ref
ref_of r = record { view = r.view; cell = r.cell }
