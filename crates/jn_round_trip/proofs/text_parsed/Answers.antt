use Rattle.std.proofs.Common.{◌≤◌, length, arith}
use Rattle.jn_base.specs.Spelling.{greatest_source}
use Rattle.jn_round_trip.proofs.TheReturn.{given_same, never_refused}
use Rattle.jn_round_trip.proofs.text_parsed.Goals as goal

pub returns-in-Ok-parse : goal.returns-in-Ok-parse
returns-in-Ok-parse c w =
    let short : length c.in-Ok.text.items ≤ greatest_source = omega (arith, c.if-len-gt-MOST.false, c.len.ensures) in
    given_same c.args.p.now c.in-Ok-parse.again c.as_slice.result.now c.in-Ok.text.items c.as_slice.ensures.value
    (c.in-Ok.ensures.back w) short c.in-Ok-parse.ensures.only

pub returns-in-Err-Refused : goal.returns-in-Err-Refused
returns-in-Err-Refused c w =
    let short : length c.in-Ok.text.items ≤ greatest_source = omega (arith, c.if-len-gt-MOST.false, c.len.ensures) in
    never_refused c.args.p.now c.in-Err-Refused.field-0 c.in-Err-Refused.refusal c.as_slice.result.now c.in-Ok.text.items c.in-Err-Refused.field-0-is c.as_slice.ensures.value
    (c.in-Ok.ensures.back w) short c.in-Err-Refused.ensures.only
