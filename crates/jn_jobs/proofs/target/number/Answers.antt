use Rattle.std.proofs.Common.{◌∙◌, sym}
use Rattle.jn_jobs.proofs.Numbers.{read_as_number}
use Rattle.jn_jobs.proofs.target.number.Goals as goal

pub returns-in_default-3-clause-is : goal.returns-in_default-3-clause-is
returns-in_default-3-clause-is c =
    let read = read_as_number c.args.most c.args.text.now c.parse.result c.requires (sym c.is_digits.ensures ∙ c.if-not-is_digits.false) c.parse.ensures.value.0 in
    let bad = sym c.in_default.is ∙ read in
    absurd cc
