use Rattle.std.proofs.Common.{◌≡◌, suc, ◌-◌, slice_get, ap, sym, ◌∙◌, arith}
use Rattle.jn_code.specs.SpellsInstr.{instructions, instruction_of}
use Rattle.jn_imagefile.proofs.instrs.instruction_of.Goals as goal

pub returns : goal.returns
returns c =
    let one : c.args.code ≡ suc (c.args.code - 1) = omega arith in
    let two : instruction_of c.args.code ≡ slice_get instructions (c.args.code - 1) = ap instruction_of one in
    c.copied.ensures ∙ c.at.ensures ∙ sym two
