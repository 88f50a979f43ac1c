use Rattle.std.proofs.Common.{◌≡◌, length}
use Rattle.jn_grammar.specs.ReadStmts.{grown}
use Rattle.jn_parser.proofs.stmt.shape_after.Given as goal

abbrev pub invariant-part : goal.invariant-part
invariant-part l = grown l.shape l.rest ≡ grown l.fn.start l.parts

abbrev pub decreases-part : goal.decreases-part
decreases-part l = length l.rest
