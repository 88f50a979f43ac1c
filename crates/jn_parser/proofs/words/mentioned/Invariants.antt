use Rattle.std.proofs.Common.{length, map}
use Rattle.jn_parser.proofs.Mentioning.{Mentioning}
use Rattle.jn_parser.proofs.words.mentioned.Given as goal

abbrev pub invariant-token : goal.invariant-token
invariant-token l = Mentioning l.bytes l.tokens l.rest l.seen.words.items (map (λ k. k.items) l.seen.names.keys) (map (λ k. k.items) l.seen.texts.keys) l.at l.place

abbrev pub decreases-token : goal.decreases-token
decreases-token l = length l.rest
