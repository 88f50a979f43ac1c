use Rattle.std.proofs.Common.{◌≡◌, ◌≤◌, ◌+◌, List, is_ok, refl, sym, ◌∙◌, ap, subst, arith}
use Rattle.std.proofs.ResultArms.{chosen}
use Rattle.jn_base.specs.Tokens.{width}
use Rattle.jn_base.specs.declared.token.Token.{Token as Lexed}
use Rattle.jn_lexer.specs.Front.{len_of, front}
use Rattle.jn_lexer.proofs.Once.{front_within}
use Rattle.jn_lexer.proofs.Loop.{passes, IsSoFar, nonempty, is_empty_at, so_far_gap, so_far_token, so_far_fault, so_far_ends, less_at_gap, less_at_token, place_within, faulty}
use Rattle.jn_lexer.proofs.pieces.Goals as goal

pub split_at-requires : goal.split_at-requires
split_at-requires c =
    let same : c.len.result ≡ len_of (front c.loop-rest.rest.now) = c.len.ensures ∙ ap len_of c.front-piece.ensures in
    omega (arith, front_within c.loop-rest.rest.now)

pub width-requires : goal.width-requires
width-requires c =
    let bounds = place_within c.loop-rest.invariant (passes c.loop-rest.at c.loop-rest.rest.now c.len.result c.len.result c.split_at.result.0.now c.split_at.result.1.now (width c.split_at.result.0.now) (nonempty _ _ c.is_empty.ensures c.loop-rest-test.true) c.split_at.ensures.front c.split_at.ensures.back refl refl) in
    let bound : width c.split_at.result.0.now ≤ width c.args.cs.now = bounds.1 in
    omega (arith, c.requires)

pub overflow_add-end : goal.overflow_add-end
overflow_add-end c =
    let bounds = place_within c.loop-rest.invariant (passes c.loop-rest.at c.loop-rest.rest.now c.len.result c.len.result c.split_at.result.0.now c.split_at.result.1.now c.width.result (nonempty _ _ c.is_empty.ensures c.loop-rest-test.true) c.split_at.ensures.front c.split_at.ensures.back refl c.width.ensures) in
    let bound : c.loop-rest.at + c.width.result ≤ width c.args.cs.now = bounds.0 in
    omega (arith, c.requires)

pub returns-in-Fault : goal.returns-in-Fault
returns-in-Fault c =
    faulty c.args.cs.now c.loop-rest.tokens.items c.in-Fault.flaw (c.loop-rest.at + c.width.result) c.at.result
    (so_far_fault c.loop-rest.invariant (sym c.front-piece.ensures ∙ c.in-Fault.is) (passes c.loop-rest.at c.loop-rest.rest.now c.in-Fault.field-1 c.len.result c.split_at.result.0.now c.split_at.result.1.now c.width.result (nonempty _ _ c.is_empty.ensures c.loop-rest-test.true) c.split_at.ensures.front c.split_at.ensures.back (c.len.ensures ∙ ap len_of c.in-Fault.is) c.width.ensures)) c.at.ensures

pub loop-rest-smaller-in-Gap : goal.loop-rest-smaller-in-Gap
loop-rest-smaller-in-Gap c = less_at_gap (sym c.front-piece.ensures ∙ c.in-Gap.is) (passes c.loop-rest.at c.loop-rest.rest.now c.in-Gap.field-0 c.len.result c.split_at.result.0.now c.split_at.result.1.now c.width.result (nonempty _ _ c.is_empty.ensures c.loop-rest-test.true) c.split_at.ensures.front c.split_at.ensures.back (c.len.ensures ∙ ap len_of c.in-Gap.is) c.width.ensures)

pub loop-rest-preserved-in-Gap : goal.loop-rest-preserved-in-Gap
loop-rest-preserved-in-Gap c = so_far_gap c.loop-rest.invariant (sym c.front-piece.ensures ∙ c.in-Gap.is) (passes c.loop-rest.at c.loop-rest.rest.now c.in-Gap.field-0 c.len.result c.split_at.result.0.now c.split_at.result.1.now c.width.result (nonempty _ _ c.is_empty.ensures c.loop-rest-test.true) c.split_at.ensures.front c.split_at.ensures.back (c.len.ensures ∙ ap len_of c.in-Gap.is) c.width.ensures)

pub loop-rest-smaller : goal.loop-rest-smaller
loop-rest-smaller c = less_at_token (sym c.front-piece.ensures ∙ c.in-Token.is) (passes c.loop-rest.at c.loop-rest.rest.now c.in-Token.field-1 c.len.result c.split_at.result.0.now c.split_at.result.1.now c.width.result (nonempty _ _ c.is_empty.ensures c.loop-rest-test.true) c.split_at.ensures.front c.split_at.ensures.back (c.len.ensures ∙ ap len_of c.in-Token.is) c.width.ensures)

pub loop-rest-preserved : goal.loop-rest-preserved
loop-rest-preserved c =
    let pushed = chosen _ _ _ _ c.push.ensures.items (ap is_ok c.in_ok-push-in-Token.was) in
    subst (λ (xs : List Lexed). IsSoFar c.args.cs.now (c.loop-rest.at + c.width.result) c.split_at.result.1.now xs) (sym pushed)
    (so_far_token c.loop-rest.invariant (sym c.front-piece.ensures ∙ c.in-Token.is) (passes c.loop-rest.at c.loop-rest.rest.now c.in-Token.field-1 c.len.result c.split_at.result.0.now c.split_at.result.1.now c.width.result (nonempty _ _ c.is_empty.ensures c.loop-rest-test.true) c.split_at.ensures.front c.split_at.ensures.back (c.len.ensures ∙ ap len_of c.in-Token.is) c.width.ensures))

pub returns : goal.returns
returns c = so_far_ends c.loop-rest.invariant (is_empty_at _ _ c.is_empty.ensures c.loop-rest-test.false)
