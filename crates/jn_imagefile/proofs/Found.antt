-- What is answered is spelled.
use Rattle.std.proofs.Common.{ℕ, List, Result, Ok, Err, sym}
use Rattle.std.specs.Prelude.{IfOk}
use Rattle.jn_code.specs.declared.image.Image.{Image}
use Rattle.jn_code.specs.declared.fault.ImageFault.{ImageFault}
use Rattle.jn_code.specs.Spells.{Spells, image_of}
use Rattle.jn_code.proofs.FieldLaws.{IsBytes}
use Rattle.jn_code.proofs.SpellsLaws.{read_is_spelled}
use Rattle.jn_imagefile.specs.Answers.{Answers}

pub is_found : (r : Result Image ImageFault) (bytes : List ℕ) → IsBytes bytes → Answers r (image_of bytes) → IfOk r (λ i. Spells i bytes)
is_found (Ok i) bytes fits e = read_is_spelled i bytes fits (sym e)
is_found (Err f) bytes fits e = tt
