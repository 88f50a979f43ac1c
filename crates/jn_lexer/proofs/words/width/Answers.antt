use Rattle.std.proofs.Common.{◌≡◌, ◌+◌, take, arith}
use Rattle.jn_base.specs.Tokens.{width}
use Rattle.jn_lexer.proofs.Widths.{next_width, width_part}
use Rattle.jn_lexer.proofs.words.width.Goals as goal

pub overflow_add-bytes : goal.overflow_add-bytes
overflow_add-bytes c =
    let next : c.loop-c.bytes + c.len_utf8.result ≡ width (take (c.loop-c.c-index + 1) c.args.cs.now) = next_width c.args.cs.now c.loop-c.c-index c.c-item.result _ _ c.loop-c-test.true c.c-item.is c.loop-c.invariant c.len_utf8.ensures.value in
    omega (arith, next, width_part c.args.cs.now (c.loop-c.c-index + 1))

pub loop-c-preserved : goal.loop-c-preserved
loop-c-preserved c = next_width c.args.cs.now c.loop-c.c-index c.c-item.result _ _ c.loop-c-test.true c.c-item.is c.loop-c.invariant c.len_utf8.ensures.value
