use Rattle.std.proofs.Common.{ℕ, Vec, Global, arith}
use Rattle.jn_parser.proofs.Mentioning.{mentioning_starts, order_here, names_few, mapped_grown, goes_on}
use Rattle.jn_parser.proofs.words.mentioned.Goals as goal

pub token-init : goal.token-init
token-init c = rw (c.requires.words, c.requires.no_names, c.requires.no_texts) (mentioning_starts c.args.bytes.now c.args.tokens.now c.requires.in_order c.requires.texts)

pub slice_bounds-moved-end : goal.slice_bounds-moved-end
slice_bounds-moved-end c =
    let o = order_here c.args.bytes.now c.token.at c.token.rest.now c.in-Some.token c.in-Some.after.now c.in-Some.ensures c.token.invariant.in_order in
    omega (arith, o.0, o.1.0, o.1.1)

pub slice_bounds-text-end : goal.slice_bounds-text-end
slice_bounds-text-end c =
    let o = order_here c.args.bytes.now c.token.at c.token.rest.now c.in-Some.token c.in-Some.after.now c.in-Some.ensures c.token.invariant.in_order in
    omega (arith, o.0, o.1.0, o.1.1)

pub mention-requires-clause-few_names : goal.mention-requires-clause-few_names
mention-requires-clause-few_names c = names_few (λ (k : Vec ℕ Global). k.items) c.token.seen.names.keys c.token.rest.now c.args.tokens.now c.args.bytes.now c.token.invariant.few_names c.requires.in_order c.requires.within

pub mention-requires-clause-few_texts : goal.mention-requires-clause-few_texts
mention-requires-clause-few_texts c = names_few (λ (k : Vec ℕ Global). k.items) c.token.seen.texts.keys c.token.rest.now c.args.tokens.now c.args.bytes.now c.token.invariant.few_texts c.requires.in_order c.requires.within

pub token-preserved : goal.token-preserved
token-preserved c =
    rw c.in_ok-mention.ensures.noted
    (goes_on c.args.bytes.now c.args.tokens.now c.token.rest.now c.in-Some.after.now c.token.seen.words.items _ _ _ _ c.token.at c.token.place c.moved-place.result c.in-Some.token c.in_ok-mention.field-0 c.in-Some.ensures c.token.invariant
    c.moved-place.ensures c.in_ok-mention.ensures.mentioned
    (mapped_grown (λ (k : Vec ℕ Global). k.items) c.token.seen.names.keys c.mention.new.seen.names.keys c.in_ok-mention.ensures.names)
    (mapped_grown (λ (k : Vec ℕ Global). k.items) c.token.seen.texts.keys c.mention.new.seen.texts.keys c.in_ok-mention.ensures.texts))
