use Rattle.std.proofs.Common.{All, take}
use Rattle.jn_header.specs.Unknown.{IsKnown}
use Rattle.jn_header.proofs.unknown.first_stranger.Given as goal

abbrev pub invariant-loop-named : goal.invariant-loop-named
invariant-loop-named l = All (λ n. IsKnown l.table l.space.names n.name) (take l.named-index l.list)
