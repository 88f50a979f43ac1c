use Rattle.std.proofs.Common.{◌≡◌, ◌++◌, length, map}
use Rattle.jn_base.specs.Words.{text}
use Rattle.jn_parser.proofs.words.table.Given as goal

abbrev pub invariant-text : goal.invariant-text
invariant-text l = l.texts ++ map (λ k. text k.items) l.rest ≡ map (λ k. text k.items) l.seen

abbrev pub decreases-text : goal.decreases-text
decreases-text l = length l.rest
