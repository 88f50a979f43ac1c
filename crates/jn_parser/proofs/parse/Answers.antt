use Rattle.jn_parser.proofs.Sources.{given_only, refused_only, utf8_refused, one_text_refusal}
use Rattle.jn_parser.proofs.parse.Goals as goal

pub returns-in-Ok-clause-only : goal.returns-in-Ok-clause-only
returns-in-Ok-clause-only c = given_only c.args.bytes.now c.parse_text.result c.requires c.parse_text.ensures.found c.parse_text.ensures.refused

pub returns-in-Ok-clause-only_refused : goal.returns-in-Ok-clause-only_refused
returns-in-Ok-clause-only_refused c = refused_only c.args.bytes.now c.parse_text.result c.parse_text.ensures.found c.parse_text.ensures.refused

pub returns-clause-refused : goal.returns-clause-refused
returns-clause-refused c =
    utf8_refused c.args.bytes.now c.in-Err.e.valid_up_to c.valid_up_to.result c.place_of-at.result c.refusal.result c.requires c.in-Err.ensures.cases.1 c.valid_up_to.ensures c.place_of-at.ensures c.refusal.ensures

pub returns-clause-only_refused : goal.returns-clause-only_refused
returns-clause-only_refused c = λ r t. one_text_refusal c.args.bytes.now c.refusal.result r
    (utf8_refused c.args.bytes.now c.in-Err.e.valid_up_to c.valid_up_to.result c.place_of-at.result c.refusal.result c.requires c.in-Err.ensures.cases.1 c.valid_up_to.ensures c.place_of-at.ensures c.refusal.ensures) t
