use Rattle.std.proofs.Common.{refl}
use Rattle.jn_code.specs.Spells.{image_of}
use Rattle.jn_code.specs.SpellsFields.{part, last, read_listed, read_ascending}
use Rattle.jn_code.specs.SpellsFile.{file, text, shape, group, row, code, member, method, field, other}
use Rattle.jn_code.specs.SpellsInstr.{read_instr}
use Rattle.jn_code.proofs.spelling.file_rows.Goals as goal

pub returns : goal.returns
unfolding image_of part last read_listed read_ascending file text shape group row code member method field other read_instr
returns c = record { file = refl; image = refl; cut = refl; behind = refl; magic = refl; kind = refl; opcode = refl; stack = refl }
