use Rattle.std.proofs.Common.{rules}
use Rattle.std.proofs.lemmas.List.Elements.{All-more}
use Rattle.jn_header.specs.Unknown.{IsKnown}
use Rattle.jn_header.proofs.Unknowns.{told, not_told, stranger_here, no_stranger}
use Rattle.jn_header.proofs.unknown.first_stranger.Goals as goal

pub returns-then-not-branch : goal.returns-then-not-branch
returns-then-not-branch c =
    stranger_here (λ n. IsKnown c.args.table.now c.args.space.now.names n.name) c.args.list.now c.loop-named.named-index _ c.loop-named-test.true c.loop-named.invariant
    (not_told c.in_ok-is_known.field-0 _ c.in_ok-is_known.ensures (search rules))

pub loop-named-preserved : goal.loop-named-preserved
loop-named-preserved c =
    All-more (λ n. IsKnown c.args.table.now c.args.space.now.names n.name) c.args.list.now c.loop-named.named-index _ c.loop-named-test.true c.loop-named.invariant
    (told c.in_ok-is_known.field-0 _ c.in_ok-is_known.ensures (search rules))

pub returns : goal.returns
returns c =
    no_stranger (λ n. IsKnown c.args.table.now c.args.space.now.names n.name) c.args.list.now c.loop-named.named-index (search rules) c.loop-named.invariant
