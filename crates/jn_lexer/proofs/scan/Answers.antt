use Rattle.std.proofs.Common.{◌≡◌, ◌∙◌, length, arith}
use Rattle.jn_base.specs.Tokens.{width}
use Rattle.jn_lexer.proofs.Answer.{scanned_of, order_of, width_of}
use Rattle.jn_lexer.proofs.scan.Goals as goal

pub pieces-requires : goal.pieces-requires
pieces-requires c =
    let same : width c.as_slice.result.now ≡ length c.args.bytes.now = width_of c.args.bytes.now _ c.requires.utf8 (c.as_slice.ensures.value ∙ c.in_ok-characters.ensures) in
    omega (arith, c.requires.within)

pub returns-clause-found : goal.returns-clause-found
returns-clause-found c = scanned_of c.args.bytes.now _ c.pieces.result c.requires.utf8 (c.as_slice.ensures.value ∙ c.in_ok-characters.ensures) c.pieces.ensures

pub returns-clause-in_order : goal.returns-clause-in_order
returns-clause-in_order c = order_of c.args.bytes.now _ c.pieces.result c.requires.utf8 (c.as_slice.ensures.value ∙ c.in_ok-characters.ensures) c.pieces.ensures
