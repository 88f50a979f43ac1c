use Rattle.std.proofs.Common.{◌∙◌, ap, sym, subst}
use Rattle.jn_grammar.specs.TokenLimits.{checked_in}
use Rattle.jn_parser.specs.Giving.{FailsAs}
use Rattle.jn_parser.proofs.Sources.{given_of, refused_of}
use Rattle.jn_parser.proofs.parse_text.Goals as goal

pub returns-in-Ok-clause-found : goal.returns-in-Ok-clause-found
returns-in-Ok-clause-found c =
    given_of c.args.bytes.now c.in_ok-words.field-0.names c.in_ok-words.field-0.texts c.in_ok-words.field-0.words.items c.in-Ok.decls c.in-Ok.field-0-1.now c.requires.within c.in_ok-words.ensures
    (ap (λ ws. checked_in ws) (sym c.as_slice.ensures.value) ∙ c.in-Ok.ensures)

pub returns-in-Err-Refused-clause-refused : goal.returns-in-Err-Refused-clause-refused
returns-in-Err-Refused-clause-refused c =
    rw (c.refused_at.ensures, c.in-Err-Refused.field-0-is, c.as_slice-in-Err-Refused.ensures.value)
    (refused_of c.args.bytes.now c.in_ok-words.field-0.names c.in_ok-words.field-0.texts c.in_ok-words.field-0.words.items c.in-Err-Refused.fault c.requires.within c.in_ok-words.ensures
    (ap (λ ws. checked_in ws) (sym c.as_slice.ensures.value) ∙ subst (λ s. FailsAs s (checked_in c.as_slice.result.now)) c.in-Err-Refused.field-0-is c.in-Err-Refused.ensures))
